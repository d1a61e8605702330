-- Without alignments the settled choice is the least that leaves its short jumps in reach.
use mathlib.Core.Path.{◌≡◌, refl, sym, ◌∙◌, ap}
use mathlib.Core.Logic.{◌≢◌}
use mathlib.Core.Bool.{true, false, ◌||◌}
use mathlib.Core.List.{List, [], ◌∷◌, ◌++◌, map}
use Prim.Native.Nat.{ℕ, zero, suc, ◌+◌, ◌-◌, ◌≤◌, ◌<◌}
use native.Mathlib.Omega.{arith}
use lib.Dec.{ltb}
use lib.ListN.{length, get_or, take, drop}
use borrow.Author.Tests.{ne_eqb, ltb-true, ltb-false}
use Rattle.fields.specs.Kinds.{info}
use Rattle.relax.specs.declared.LayoutEvent.{LayoutEvent}
use Rattle.relax.specs.Events.{start_of, extent_of, end_of, no_event}
use Rattle.buffer.specs.State.{none}
use Rattle.fresh.specs.Pooled.{Pooled}
use Rattle.fresh.specs.Forms.{width, Branch, branches, role_of}
use Rattle.fresh.specs.Fresh.{Choice, is_long, others, Item, plain, event, items, starts, stands, walk, moved, target}
use Rattle.fresh.specs.Rounds.{all_short, far, join, Rounds, last, again}
use Rattle.fresh.specs.Demand.{Reach, Fits, Includes, Branches, NoAlign}
use Rattle.fresh.proofs.Tests.{split, no_confusion, by_role}
use Rattle.fresh.proofs.Choices.{is_long_get_d, others_get_d, is_long_in, others_in, far_of_get_d, far_of_out, pads_near, reach_near}
use Rattle.fresh.proofs.Forms.{branch_wider, home_reached}

-- the labels that jumps name are bound
abbrev pub Bound : List ℕ → List LayoutEvent → Type 0
Bound labels es = (i : ℕ) (b : Branch) → i < length es → role_of (get_or es i no_event) ≡ branches b → get_or labels b.label none ≢ none

-- every event among the items names a label
OnlyBranches : List Item → Type 0
OnlyBranches [] = Unit {0}
OnlyBranches (plain b ∷ is) = OnlyBranches is
OnlyBranches (event e bytes ∷ is) = Branches (role_of e) × OnlyBranches is

event_count : List Item → ℕ
event_count [] = 0
event_count (plain b ∷ is) = event_count is
event_count (event e bytes ∷ is) = suc (event_count is)

-- an event that names a label is no shorter where the choice is larger
wider : (e : LayoutEvent) → Branches (role_of e) → (c d : Choice) (n m : ℕ) → Includes c d → width e (is_long c) n ≤ width e (is_long d) m
wider e names c d n m h = by_role e
    (λ r. absurd (rw r at names))
    (λ b r. branch_wider e b r (is_long c) (is_long d) n m (is_long_in c d h))

-- Two walks that differ in the choice, at new offsets n and m: from there on the larger choice moves each place as far or farther.
stands_grow : (is : List Item) (c d : Choice) → OnlyBranches is → Includes c d → (t o n m : ℕ)
    → (n ≤ stands t o n is c) × (m + stands t o n is c ≤ stands t o m is d + n)
unfolding OnlyBranches stands
stands_grow [] c d only h t o n m = omega arith
stands_grow (plain b ∷ is) c d only h t o n m = split (ltb t (suc o))
    (λ e. rw (e, stands) (omega arith))
    (λ e. rw (e, stands) (omega (arith, stands_grow is c d only h t (suc o) (suc n) (suc m))))
stands_grow (event e bytes ∷ is) c d only h t o n m = split (ltb t (o + extent_of e))
    (λ w. rw (w, stands) (omega arith))
    (λ w. rw (w, stands)
    (omega (
      arith,
      wider e only.0 c d n m h,
      stands_grow is (others c) (others d) only.1 (others_in c d h) t (o + extent_of e) (n + width e (is_long c) n) (m + width e (is_long d) m),
    )))

starts_grow : (is : List Item) (c d : Choice) → OnlyBranches is → Includes c d → (n m i : ℕ) → i < event_count is
    → (n ≤ get_or (starts n is c) i 0) × (m + get_or (starts n is c) i 0 ≤ get_or (starts m is d) i 0 + n)
unfolding OnlyBranches starts event_count
starts_grow [] c d only h n m i hi = absurd (omega arith)
starts_grow (plain b ∷ is) c d only h n m i hi = omega (arith, starts_grow is c d only h (suc n) (suc m) i hi)
starts_grow (event e bytes ∷ is) c d only h n m zero hi = omega (arith, wider e only.0 c d n m h)
starts_grow (event e bytes ∷ is) c d only h n m (suc i) hi =
    omega (
      arith,
      wider e only.0 c d n m h,
      starts_grow is (others c) (others d) only.1 (others_in c d h) (n + width e (is_long c) n) (m + width e (is_long d) m) i (omega arith),
    )

-- So a jump that reaches under the larger choice reaches under the smaller one.
nearer : (v : Branch) → v.short.place + (info v.short.kind).from ≤ (info v.short.kind).low → (is : List Item) (c d : Choice) → OnlyBranches is → Includes c d → (t o n m i : ℕ) → i < event_count is
    → Reach v (get_or (starts m is d) i 0) (stands t o m is d) → Reach v (get_or (starts n is c) i 0) (stands t o n is c)
unfolding OnlyBranches starts event_count stands
nearer v home [] c d only h t o n m i hi q = absurd (omega arith)
nearer v home (plain b ∷ is) c d only h t o n m i hi q = split (ltb t (suc o))
    (λ e. rw (e, stands) (omega (arith, rw (e, stands) at q, starts_grow is c d only h (suc n) (suc m) i hi)))
    (λ e. rw (e, stands) (nearer v home is c d only h t (suc o) (suc n) (suc m) i hi (rw (e, stands) at q)))
nearer v home (event e bytes ∷ is) c d only h t o n m zero hi q = split (ltb t (o + extent_of e))
    (λ w. rw (w, stands) (omega (arith, rw (w, stands) at q, wider e only.0 c d n m h)))
    (λ w. rw (w, stands)
    (omega (
      arith,
      rw (w, stands) at q,
      wider e only.0 c d n m h,
      stands_grow is (others c) (others d) only.1 (others_in c d h) t (o + extent_of e) (n + width e (is_long c) n) (m + width e (is_long d) m),
    )))
nearer v home (event e bytes ∷ is) c d only h t o n m (suc i) hi q = split (ltb t (o + extent_of e))
    (λ w. rw (w, stands)
    (omega (
      arith,
      rw (w, stands) at q,
      wider e only.0 c d n m h,
      starts_grow is (others c) (others d) only.1 (others_in c d h) (n + width e (is_long c) n) (m + width e (is_long d) m) i (omega arith),
    )))
    (λ w. rw (w, stands)
    (nearer v home is (others c) (others d) only.1 (others_in c d h) t (o + extent_of e) (n + width e (is_long c) n) (m + width e (is_long d) m) i (omega arith)
    (rw (w, stands) at q)))

-- the items of a recording without alignment
run_branches : (bs : List ℕ) (is : List Item) → OnlyBranches is → OnlyBranches (map plain bs ++ is)
unfolding OnlyBranches
run_branches [] is only = only
run_branches (b ∷ bs) is only = run_branches bs is only

plains_branches : (bs : List ℕ) → OnlyBranches (map plain bs)
unfolding OnlyBranches
plains_branches [] = tt
plains_branches (b ∷ bs) = plains_branches bs

items_branches : (es : List LayoutEvent) → NoAlign es → (o : ℕ) (bs : List ℕ) → OnlyBranches (items o bs es)
unfolding NoAlign items OnlyBranches
items_branches [] a o bs = plains_branches bs
items_branches (e ∷ es) a o bs = run_branches (take (start_of e - o) bs) _ (a.0, items_branches es a.1 (end_of e) (drop (end_of e - o) bs))

run_count : (bs : List ℕ) (is : List Item) → event_count (map plain bs ++ is) ≡ event_count is
unfolding event_count
run_count [] is = refl
run_count (b ∷ bs) is = run_count bs is

plains_count : (bs : List ℕ) → event_count (map plain bs) ≡ 0
unfolding event_count
plains_count [] = refl
plains_count (b ∷ bs) = plains_count bs

items_count : (es : List LayoutEvent) (o : ℕ) (bs : List ℕ) → event_count (items o bs es) ≡ length es
unfolding items event_count
items_count [] o bs = plains_count bs
items_count (e ∷ es) o bs = run_count (take (start_of e - o) bs) _ ∙ ap suc (items_count es (end_of e) (drop (end_of e - o) bs))

moved_bound : (p : Pooled) (c : Choice) (t : ℕ) → t ≢ none → moved p c t ≡ stands t 0 0 (walk p) c
unfolding moved
moved_bound p c t h = rw (ne_eqb t none h, moved)

module _ (p : Pooled) (na : NoAlign p.events) (bound : Bound p.labels p.events) (d : Choice) (fits : Fits p d) where
  -- a jump that a smaller choice leaves out of reach is long in d
  far_jump : (c : Choice) → Includes c d → (i : ℕ) → i < length p.events → (b : Branch) → role_of (get_or p.events i no_event) ≡ branches b
      → get_or (far p c) i false ≡ true → get_or d i false ≡ true
  unfolding Fits
  far_jump c h i hi b r f = split (get_or d i false) (λ e. e) (λ e. no_confusion (sym (near e) ∙ f))
    where
      is_bound : get_or p.labels b.label none ≢ none
      is_bound = bound i b hi r

      small : get_or d i false ≡ false → Reach b (get_or (starts 0 (walk p) c) i 0) (target p c b.label)
      small e =
          rw (moved_bound p c (get_or p.labels b.label none) is_bound)
          (nearer b (home_reached (get_or p.events i no_event) b r) (walk p) c d (items_branches p.events na 0 p.code) h (get_or p.labels b.label none) 0 0 0 i
          (rw (items_count p.events 0 p.code) hi)
          (rw (moved_bound p d (get_or p.labels b.label none) is_bound) at (fits i b hi r e)))

      near : get_or d i false ≡ false → get_or (far p c) i false ≡ false
      near e =
          far_of_get_d (target p c) p.events c (starts 0 (walk p) c) i no_event hi
          ∙ reach_near (target p c) (get_or p.events i no_event) b (get_or c i false) (get_or (starts 0 (walk p) c) i 0) r (small e)

  far_in_lem : (c : Choice) → Includes c d → Includes (far p c) d
  unfolding Includes
  far_in_lem c h i f = split (ltb i (length p.events))
      (λ e. let hi = ltb-true i (length p.events) e in
      by_role (get_or p.events i no_event)
      (λ r. no_confusion
      (sym (far_of_get_d (target p c) p.events c (starts 0 (walk p) c) i no_event hi ∙ pads_near (target p c) (get_or p.events i no_event) _ _ r) ∙ f))
      (λ b r. far_jump c h i hi b r f))
      (λ e. no_confusion (sym (far_of_out (target p c) p.events c (starts 0 (walk p) c) i (ltb-false i (length p.events) e)) ∙ f))

  join_in : (f c e : Choice) → Includes c e → Includes f e → Includes (join c f) e
  unfolding Includes join
  join_in [] c e h g i w = no_confusion w
  join_in (x ∷ f) c e h g zero w = split (is_long c) (λ q. h 0 (sym (is_long_get_d c) ∙ q)) (λ q. g 0 (sym (ap (λ y. y || x) q) ∙ w))
  join_in (x ∷ f) c e h g (suc i) w = sym (others_get_d e i) ∙ join_in f (others c) (others e) (others_in c e h) (λ j v. others_get_d e j ∙ g (suc j) v) i w

  rounds_in : {c s : Choice} {n : ℕ} → Rounds p c s n → Includes c d → Includes s d
  rounds_in (last e) h = h
  rounds_in (again {c = c} e q) h = rounds_in q (join_in (far p c) c d h (far_in_lem c h))

short_in : (es : List LayoutEvent) (d : Choice) → Includes (all_short es) d
unfolding Includes
short_in [] d i h = no_confusion h
short_in (e ∷ es) d zero h = no_confusion h
short_in (e ∷ es) d (suc i) h = sym (others_get_d d i) ∙ short_in es (others d) i h

-- Without alignment, whatever choice leaves its short jumps in reach includes the settled one.
pub rounds_least : (p : Pooled) → NoAlign p.events → Bound p.labels p.events → {s : Choice} {n : ℕ} → Rounds p (all_short p.events) s n
    → (d : Choice) → Fits p d → Includes s d
rounds_least p na bound q d fits = rounds_in p na bound d fits q (short_in p.events d)
