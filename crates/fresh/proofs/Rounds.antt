-- The rounds end, there is at most one more of them than jumps, and what they settle on leaves every short jump in reach.
use mathlib.Core.Path.{◌≡◌, refl, sym, ◌∙◌, ap}
use mathlib.Core.Bool.{Bool, true, false, not, ◌||◌}
use mathlib.Core.List.{List, [], ◌∷◌}
use Prim.Native.Nat.{ℕ, zero, suc, ◌+◌, ◌≤◌, ◌<◌}
use native.Mathlib.Omega.{arith}
use lib.Dec.{ltb}
use lib.ListN.{length, get_or}
use borrow.Author.Tests.{ltb-true, ltb-false, not-false}
use Rattle.relax.specs.declared.LayoutEvent.{LayoutEvent}
use Rattle.relax.specs.Events.{no_event}
use Rattle.fresh.specs.Pooled.{Pooled}
use Rattle.fresh.specs.Forms.{Role, pads, branches, role_of}
use Rattle.fresh.specs.Fresh.{Choice, is_long, others, walk, starts, target}
use Rattle.fresh.specs.Rounds.{all_short, counted, jumps, reaches, is_far, first_start, other_starts, far_of, far, any, join, longer, Rounds, last, again, settle, settled}
use Rattle.fresh.specs.Demand.{Fits}
use Rattle.fresh.proofs.Tests.{split, no_confusion, by_role}
use Rattle.fresh.proofs.Choices.{far_of_get_d, far_of_out, any_get_d, any_none, reach, pads_near, branch_far, reach_near, long_near}

-- a branch that is short counts
abbrev short : Role → Bool → ℕ
short pads long = 0
short (branches b) true = 0
short (branches b) false = 1

-- how many jumps are short
pub shorts : List LayoutEvent → Choice → ℕ
shorts [] c = 0
shorts (e ∷ es) c = short (role_of e) (is_long c) + shorts es (others c)

short_le : (r : Role) (long far : Bool) → short r (long || far) ≤ short r long
short_le pads long far = omega arith
short_le (branches b) true far = omega arith
short_le (branches b) false true = omega arith
short_le (branches b) false false = omega arith

shorts_le : (at : ℕ → ℕ) (es : List LayoutEvent) (c : Choice) (starts : List ℕ) → shorts es (join c (far_of at es c starts)) ≤ shorts es c
unfolding shorts join far_of
shorts_le at [] c starts = omega arith
shorts_le at (e ∷ es) c starts =
    omega (arith, short_le (role_of e) (is_long c) (is_far at e (is_long c) (first_start starts)), shorts_le at es (others c) (other_starts starts))

-- what a round lengthens was a short jump
far_short : (at : ℕ → ℕ) (e : LayoutEvent) (long : Bool) (start : ℕ) → is_far at e long start ≡ true
    → short (role_of e) (long || is_far at e long start) < short (role_of e) long
far_short at e true start h = no_confusion (sym (long_near at e start) ∙ h)
far_short at e false start h = by_role e
    (λ r. no_confusion (sym (pads_near at e false start r) ∙ h))
    (λ b r. rw (h, r) (omega arith))

-- A round that lengthens a jump leaves fewer short ones.
pub shorts_lt : (at : ℕ → ℕ) (es : List LayoutEvent) (c : Choice) (starts : List ℕ) → any (far_of at es c starts) ≡ true
    → shorts es (join c (far_of at es c starts)) < shorts es c
unfolding shorts join far_of any
shorts_lt at [] c starts h = no_confusion h
shorts_lt at (e ∷ es) c starts h = split (is_far at e (is_long c) (first_start starts))
    (λ f. omega (arith, far_short at e (is_long c) (first_start starts) f, shorts_le at es (others c) (other_starts starts)))
    (λ f. omega (
      arith,
      short_le (role_of e) (is_long c) (is_far at e (is_long c) (first_start starts)),
      shorts_lt at es (others c) (other_starts starts) (sym (ap (λ t. t || any (far_of at es (others c) (other_starts starts))) f) ∙ h),
    ))

short_most : (r : Role) (long : Bool) → short r long ≤ counted r
short_most pads long = omega arith
short_most (branches b) true = omega arith
short_most (branches b) false = omega arith

-- There are no more short jumps than jumps.
pub shorts_most : (es : List LayoutEvent) (c : Choice) → shorts es c ≤ jumps es
unfolding shorts jumps
shorts_most [] c = omega arith
shorts_most (e ∷ es) c = omega (arith, short_most (role_of e) (is_long c), shorts_most es (others c))

-- With as many rounds left as there are short jumps the computed rounds are the rounds.
pub settles : (k : ℕ) (p : Pooled) (c : Choice) → shorts p.events c ≤ k → Rounds p c (settle k p c).choice (settle k p c).rounds
unfolding settle
settles zero p c h = go (any (far p c)) refl
  where
    go : (b : Bool) → any (far p c) ≡ b → Rounds p c c 1
    go true e = absurd (omega (arith, shorts_lt (target p c) p.events c (starts 0 (walk p) c) e))
    go false e = last e
settles (suc k) p c h = go (any (far p c)) refl (settles k p (longer p c))
  where
    go : (b : Bool) → any (far p c) ≡ b
        → (shorts p.events (longer p c) ≤ k → Rounds p (longer p c) (settle k p (longer p c)).choice (settle k p (longer p c)).rounds)
        → Rounds p c (settle (suc k) p c).choice (settle (suc k) p c).rounds
    go true e ih = rw (e, settle) (again e (ih (omega (arith, shorts_lt (target p c) p.events c (starts 0 (walk p) c) e))))
    go false e ih = rw (e, settle) (last e)

settle_bound : (k : ℕ) (p : Pooled) (c : Choice) → (settle k p c).rounds ≤ suc k
unfolding settle
settle_bound zero p c = omega arith
settle_bound (suc k) p c = go (any (far p c)) refl (settle_bound k p (longer p c))
  where
    go : (b : Bool) → any (far p c) ≡ b → (settle k p (longer p c)).rounds ≤ suc k → (settle (suc k) p c).rounds ≤ suc (suc k)
    go true e ih = rw (e, settle) (omega arith)
    go false e ih = rw (e, settle) (omega arith)

-- The rounds settle: what is computed is what document 01 says.
pub rounds_settle : (p : Pooled) → Rounds p (all_short p.events) (settled p).choice (settled p).rounds
rounds_settle p = settles (jumps p.events) p (all_short p.events) (omega (arith, shorts_most p.events (all_short p.events)))

-- They are at most one more than the jumps.
pub rounds_bound : (p : Pooled) → (settled p).rounds ≤ jumps p.events + 1
rounds_bound p = omega (arith, settle_bound (jumps p.events) p (all_short p.events))

-- The settled choice and the number of rounds are the only ones: whoever comes to a settled choice by rounds has come to this one.
pub rounds_unique : {p : Pooled} {c s s' : Choice} {n n' : ℕ} → Rounds p c s n → Rounds p c s' n' → (s ≡ s') × (n ≡ n')
rounds_unique (last e) (last e') = (refl, refl)
rounds_unique (last e) (again e' h) = no_confusion (sym e ∙ e')
rounds_unique (again e h) (last e') = no_confusion (sym e' ∙ e)
rounds_unique (again e h) (again e' h') = let u = rounds_unique h h' in (u.0, ap suc u.1)

pub rounds_last : {p : Pooled} {c s : Choice} {n : ℕ} → Rounds p c s n → any (far p s) ≡ false
rounds_last (last e) = e
rounds_last (again e h) = rounds_last h

-- A round lengthens none just where every short jump reaches.
pub none_fits : (p : Pooled) (c : Choice) → any (far p c) ≡ false → Fits p c
unfolding Fits
none_fits p c h i b hi r short = reach b _ _ (not-false _ (sym is_far_lem ∙ any_get_d (far p c) i h))
  where
    is_far_lem : get_or (far p c) i false ≡ not (reaches b (get_or (starts 0 (walk p) c) i 0) (target p c b.label))
    is_far_lem =
        far_of_get_d (target p c) p.events c (starts 0 (walk p) c) i no_event hi
        ∙ (branch_far (target p c) (get_or p.events i no_event) b (get_or c i false) (get_or (starts 0 (walk p) c) i 0) r ∙ rw short refl)

pub fits_none : (p : Pooled) (c : Choice) → Fits p c → any (far p c) ≡ false
unfolding Fits
fits_none p c h = any_none (far p c) λ i. split (ltb i (length p.events))
    (λ e. far_of_get_d (target p c) p.events c (starts 0 (walk p) c) i no_event (ltb-true i (length p.events) e)
    ∙ near i (ltb-true i (length p.events) e))
    (λ e. far_of_out (target p c) p.events c (starts 0 (walk p) c) i (ltb-false i (length p.events) e))
  where
    near : (i : ℕ) → i < length p.events → is_far (target p c) (get_or p.events i no_event) (get_or c i false) (get_or (starts 0 (walk p) c) i 0) ≡ false
    near i hi = split (get_or c i false)
        (λ long. rw long (long_near (target p c) (get_or p.events i no_event) (get_or (starts 0 (walk p) c) i 0)))
        (λ short. by_role (get_or p.events i no_event)
        (λ r. pads_near (target p c) (get_or p.events i no_event) _ _ r)
        (λ b r. reach_near (target p c) (get_or p.events i no_event) b _ _ r (h i b hi r short)))
