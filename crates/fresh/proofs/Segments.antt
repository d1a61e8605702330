-- What a finish computes from segments is what the walk of a fresh assembly does.
use mathlib.Core.Path.{◌≡◌, refl, sym, ◌∙◌, ap, fun_ext}
use mathlib.Core.List.{List, [], ◌∷◌, ◌++◌, map}
use Prim.Native.Nat.{ℕ, suc, ◌+◌, ◌-◌, ◌≤◌, ◌<◌}
use native.Mathlib.Omega.{arith}
use lib.Dec.{ltb, eqb}
use lib.ListN.{length, get_or, take, drop, length-append, length-drop}
use borrow.Author.Tests.{le-leb, lt-leb, lt-ltb, le-ltb, eqb-false, ltb-true, ltb-false}
use Rattle.relax.specs.declared.LayoutEvent.{LayoutEvent}
use Rattle.relax.specs.declared.Segment.{Segment}
use Rattle.relax.specs.Events.{end_of, start_of, extent_of}
use Rattle.buffer.specs.State.{none}
use Rattle.fresh.specs.Pooled.{Pooled}
use Rattle.fresh.specs.Forms.{form, width}
use Rattle.fresh.specs.Fresh.{Choice, is_long, others, Item, plain, event, items, writes, starts, stands, walk, placed, moved, target}
use Rattle.fresh.specs.Rounds.{far_of, far}
use Rattle.fresh.specs.Segments.{segment, segments, image, chosen, decided, map_offset, segments_of}
use Rattle.fresh.specs.Order.{Ordered, Clear, Lies, WellFormed}
use Rattle.fresh.specs.steps.Runs.{new_starts, runs}
use Rattle.fresh.proofs.Tests.{split}
use Rattle.fresh.proofs.Events.{at_start, ordered_le, ordered_clear, run_length, drop_on}
use Rattle.fresh.specs.Walk.{spanned}
use Rattle.fresh.proofs.Items.{spanned_items}
use Rattle.fresh.proofs.Forms.{length_form}

-- over a run of plain bytes
pub writes_run : (arch : ℕ) (bs : List ℕ) (is : List Item) (n : ℕ) (c : Choice) → writes arch n (map plain bs ++ is) c ≡ bs ++ writes arch (n + length bs) is c
unfolding writes
writes_run arch [] is n c = ap (λ x. writes arch x is c) (omega arith)
writes_run arch (b ∷ bs) is n c = ap (λ l. b ∷ l) (writes_run arch bs is (suc n) c ∙ ap (λ x. bs ++ writes arch x is c) (omega arith))

writes_plains : (arch : ℕ) (bs : List ℕ) (n : ℕ) (c : Choice) → writes arch n (map plain bs) c ≡ bs
unfolding writes
writes_plains arch [] n c = refl
writes_plains arch (b ∷ bs) n c = ap (λ l. b ∷ l) (writes_plains arch bs (suc n) c)

pub starts_run : (bs : List ℕ) (is : List Item) (n : ℕ) (c : Choice) → starts n (map plain bs ++ is) c ≡ starts (n + length bs) is c
unfolding starts
starts_run [] is n c = ap (λ x. starts x is c) (omega arith)
starts_run (b ∷ bs) is n c = starts_run bs is (suc n) c ∙ ap (λ x. starts x is c) (omega arith)

starts_plains : (bs : List ℕ) (n : ℕ) (c : Choice) → starts n (map plain bs) c ≡ []
unfolding starts
starts_plains [] n c = refl
starts_plains (b ∷ bs) n c = starts_plains bs (suc n) c

stands_in : (bs : List ℕ) (is : List Item) (t o n : ℕ) (c : Choice) → o ≤ t → t < o + length bs → stands t o n (map plain bs ++ is) c ≡ n + (t - o)
unfolding stands
stands_in [] is t o n c h k = absurd (omega arith)
stands_in (b ∷ bs) is t o n c h k = split (ltb t (suc o))
    (λ e. rw (e, stands) (omega (arith, ltb-true t (suc o) e)))
    (λ e. rw (e, stands) (stands_in bs is t (suc o) (suc n) c (ltb-false t (suc o) e) (omega arith) ∙ omega (arith, ltb-false t (suc o) e)))

stands_past : (bs : List ℕ) (is : List Item) (t o n : ℕ) (c : Choice) → o + length bs ≤ t
    → stands t o n (map plain bs ++ is) c ≡ stands t (o + length bs) (n + length bs) is c
unfolding stands
stands_past [] is t o n c h = cc (plus_zero o, plus_zero n)
  where
    plus_zero : (x : ℕ) → x + 0 ≡ x
    plus_zero x = omega arith
stands_past (b ∷ bs) is t o n c h =
    rw (le-ltb t (suc o) (omega arith), stands) (stands_past bs is t (suc o) (suc n) c (omega arith) ∙ cc (shift o, shift n))
  where
    shift : (x : ℕ) → suc x + length bs ≡ x + suc (length bs)
    shift x = omega arith

stands_plains : (bs : List ℕ) (t o n : ℕ) (c : Choice) → o ≤ t → t ≤ o + length bs → stands t o n (map plain bs) c ≡ n + (t - o)
unfolding stands
stands_plains [] t o n c h k = omega arith
stands_plains (b ∷ bs) t o n c h k = split (ltb t (suc o))
    (λ e. rw (e, stands) (omega (arith, ltb-true t (suc o) e)))
    (λ e. rw (e, stands) (stands_plains bs t (suc o) (suc n) c (ltb-false t (suc o) e) (omega arith) ∙ omega (arith, ltb-false t (suc o) e)))

-- at an event
stands_stop : (e : LayoutEvent) (bytes : List ℕ) (is : List Item) (t o n : ℕ) (c : Choice) → t < o + extent_of e → stands t o n (event e bytes ∷ is) c ≡ n
unfolding stands
stands_stop e bytes is t o n c h = rw (lt-ltb t (o + extent_of e) h, stands)

stands_go : (e : LayoutEvent) (bytes : List ℕ) (is : List Item) (t o n : ℕ) (c : Choice) → o + extent_of e ≤ t
    → stands t o n (event e bytes ∷ is) c ≡ stands t (o + extent_of e) (n + width e (is_long c) n) is (others c)
unfolding stands
stands_go e bytes is t o n c h = rw (le-ltb t (o + extent_of e) h, stands)

-- the code
writes_runs : (arch : ℕ) (es : List LayoutEvent) (o n : ℕ) (code : List ℕ) (c : Choice) → Ordered o (length code) es
    → writes arch n (items o (drop o code) es) c ≡ runs arch o n code es c
unfolding Ordered items runs writes
writes_runs arch [] o n code c h = writes_plains arch (drop o code) n c
writes_runs arch (e ∷ es) o n code c h =
    writes_run arch (take (start_of e - o) (drop o code)) _ n c
    ∙ rw (
      run_length o (start_of e) code h.0 (omega (arith, ordered_le (end_of e) (length code) es h.1)),
      drop_on o (start_of e) code h.0,
      drop_on o (end_of e) code (omega (arith, h.0)),
      writes_runs arch es (end_of e) (n + (start_of e - o) + width e (is_long c) (n + (start_of e - o))) code (others c) h.1,
    ) refl

-- the events' new starts
starts_segments : (es : List LayoutEvent) (o n : ℕ) (code : List ℕ) (c : Choice) → Ordered o (length code) es
    → starts n (items o (drop o code) es) c ≡ new_starts (segments o n es c)
unfolding Ordered items segments starts
starts_segments [] o n code c h = starts_plains (drop o code) n c
starts_segments (e ∷ es) o n code c h =
    starts_run (take (start_of e - o) (drop o code)) _ n c
    ∙ rw (
      run_length o (start_of e) code h.0 (omega (arith, ordered_le (end_of e) (length code) es h.1)),
      drop_on o (end_of e) code (omega (arith, h.0)),
      starts_segments es (end_of e) (n + (start_of e - o) + width e (is_long c) (n + (start_of e - o))) code (others c) h.1,
    ) refl

-- what one segment decides
pub chosen_no : (s : Segment) (t d : ℕ) → t < s.old_start → chosen s t d ≡ d
unfolding chosen
chosen_no s t d h = rw (lt-leb s.old_start t h, chosen)

pub chosen_in : (s : Segment) (t d : ℕ) → s.old_start ≤ t → t < s.old_end → chosen s t d ≡ t - s.old_start + s.new_start
unfolding chosen image
chosen_in s t d h k = rw (le-leb s.old_start t h, chosen) (rw (lt-ltb t s.old_end k, image))

pub chosen_past : (s : Segment) (t d : ℕ) → s.old_start ≤ t → s.old_end ≤ t → chosen s t d ≡ t - s.old_end + s.new_end
unfolding chosen image
chosen_past s t d h k = rw (le-leb s.old_start t h, chosen) (rw (le-ltb t s.old_end k, image))

-- no segment that starts past t decides
pub decided_none : (es : List LayoutEvent) (o n len t d : ℕ) (c : Choice) → Ordered o len es → t < o → decided (segments o n es c) t d ≡ d
unfolding Ordered segments decided
decided_none [] o n len t d c h k = refl
decided_none (e ∷ es) o n len t d c h k =
    ap (λ x. decided (segments (end_of e) (segment o n e (is_long c)).new_end es (others c)) t x)
    (chosen_no (segment o n e (is_long c)) t d (omega (arith, h.0)))
    ∙ decided_none es (end_of e) (segment o n e (is_long c)).new_end len t d (others c) h.1 (omega (arith, h.0))

-- offsets
stands_decided : (es : List LayoutEvent) (o n : ℕ) (code : List ℕ) (c : Choice) (t : ℕ) → Ordered o (length code) es → Clear t es → o ≤ t → t ≤ length code
    → stands t o n (items o (drop o code) es) c ≡ decided (segments o n es c) t (t - o + n)
unfolding Ordered Clear items segments decided
stands_decided [] o n code c t h cl ot tn = stands_plains (drop o code) t o n c ot (rw (length-drop o code) (omega arith)) ∙ omega arith
stands_decided (e ∷ es) o n code c t h cl ot tn = split (ltb t (start_of e))
    (λ q. let a : t < start_of e = ltb-true t (start_of e) q in
    stands_in run _ t o n c ot (rw len (omega (arith, h.0)))
    ∙ (omega arith ∙ sym (rest (t - o + n) (chosen_no (segment o n e (is_long c)) t (t - o + n) a) (omega (arith)))))
    (λ q. let a : start_of e ≤ t = ltb-false t (start_of e) q in
    stands_past run _ t o n c (rw len (omega (arith, h.0)))
    ∙ rw (len, there, drop_on o (end_of e) code (omega (arith, h.0)))
    (split (ltb t (end_of e))
    (λ w. let b : t < end_of e = ltb-true t (end_of e) w in
    stands_stop e _ _ t (start_of e) (n + (start_of e - o)) c (omega (arith))
    ∙ (omega (arith, at_start (start_of e) (end_of e) t a b cl.0)
    ∙ sym (rest (t - start_of e + (n + (start_of e - o))) (chosen_in (segment o n e (is_long c)) t (t - o + n) a b) b)))
    (λ w. let b : end_of e ≤ t = ltb-false t (end_of e) w in
    stands_go e _ _ t (start_of e) (n + (start_of e - o)) c (omega (arith))
    ∙ (stands_decided es (end_of e) new code (others c) t h.1 cl.1 b tn
    ∙ sym (ap (λ x. decided (segments (end_of e) new es (others c)) t x) (chosen_past (segment o n e (is_long c)) t (t - o + n) a b))))))
  where
    run : List ℕ
    run = take (start_of e - o) (drop o code)

    new : ℕ
    new = (segment o n e (is_long c)).new_end

    len : length run ≡ start_of e - o
    len = run_length o (start_of e) code h.0 (omega (arith, ordered_le (end_of e) (length code) es h.1))

    there : o + (start_of e - o) ≡ start_of e
    there = omega (arith, h.0)

    rest : (x : ℕ) → chosen (segment o n e (is_long c)) t (t - o + n) ≡ x → t < end_of e
        → decided (segments (end_of e) new es (others c)) t (chosen (segment o n e (is_long c)) t (t - o + n)) ≡ x
    rest x p b =
        ap (λ y. decided (segments (end_of e) new es (others c)) t y) p ∙ decided_none es (end_of e) new (length code) t x (others c) h.1 b

-- the walk to the end: the finished length is the new offset of the code's end
stands_all : (arch : ℕ) (is : List Item) (t o n : ℕ) (c : Choice) → o + spanned is ≤ t → stands t o n is c ≡ n + length (writes arch n is c)
unfolding spanned stands writes
stands_all arch [] t o n c h = omega arith
stands_all arch (plain b ∷ is) t o n c h =
    rw (le-ltb t (suc o) (omega arith), stands) (stands_all arch is t (suc o) (suc n) c (omega arith) ∙ omega arith)
stands_all arch (event e bytes ∷ is) t o n c h =
    stands_go e bytes is t o n c (omega arith)
    ∙ (stands_all arch is t (o + extent_of e) (n + width e (is_long c) n) (others c) (omega arith)
    ∙ omega (arith, length_form arch e bytes (is_long c) n, length-append (form arch e bytes (is_long c) n) (writes arch (n + width e (is_long c) n) is (others c))))

module _ (p : Pooled) (c : Choice) (wf : WellFormed p) where
  -- Every byte.
  pub placed_runs : placed p c ≡ runs p.arch 0 0 p.code p.events c
  placed_runs = writes_runs p.arch p.events 0 0 p.code c wf.ordered

  -- Each event's new start.
  pub starts_are : starts 0 (walk p) c ≡ new_starts (segments_of p c)
  starts_are = starts_segments p.events 0 0 p.code c wf.ordered

  -- Every offset in the code that lies strictly inside no event.
  pub moved_map : (t : ℕ) → Lies p t → moved p c t ≡ map_offset (segments_of p c) t
  unfolding moved map_offset
  moved_map t h = split (eqb t none)
      (λ e. rw (e, moved, map_offset) refl)
      (λ e. rw (e, moved, map_offset)
      (stands_decided p.events 0 0 p.code c t wf.ordered h.1 (omega arith) h.0 ∙ ap (λ x. decided (segments_of p c) t x) (same t)))
    where
      same : (t : ℕ) → t - 0 + 0 ≡ t
      same t = omega arith

  -- Every label.
  pub target_map : (l : ℕ) → target p c l ≡ map_offset (segments_of p c) (get_or p.labels l none)
  unfolding moved map_offset
  target_map l = split (eqb (get_or p.labels l none) none)
      (λ e. rw (e, moved, map_offset) refl)
      (λ e. moved_map (get_or p.labels l none) (wf.landed l (eqb-false (get_or p.labels l none) none e)))

  -- The jumps that a round lengthens.
  pub far_segments : far p c ≡ far_of (λ l. map_offset (segments_of p c) (get_or p.labels l none)) p.events c (new_starts (segments_of p c))
  far_segments =
      ap (λ f. far_of f p.events c (starts 0 (walk p) c)) (fun_ext target_map)
      ∙ ap (λ es. far_of (λ l. map_offset (segments_of p c) (get_or p.labels l none)) p.events c es) starts_are

  -- The finished length is where the code's end goes.
  pub length_placed : length (placed p c) ≡ decided (segments_of p c) (length p.code) (length p.code)
  length_placed =
      omega (
        arith,
        stands_all p.arch (walk p) (length p.code) 0 0 c (omega (arith, spanned_items p.events 0 p.code wf.ordered)),
        stands_decided p.events 0 0 p.code c (length p.code) wf.ordered (ordered_clear p.events 0 (length p.code) wf.ordered) (omega arith) (omega arith),
        ap (λ x. decided (segments_of p c) (length p.code) x) (same (length p.code)),
      )
    where
      same : (t : ℕ) → t - 0 + 0 ≡ t
      same t = omega arith
