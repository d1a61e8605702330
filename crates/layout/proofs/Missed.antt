-- By the rows of the table a round lengthens what it lengthens by the segments of its layout.
use mathlib.Core.Path.{◌≡◌, refl, sym, ◌∙◌, ap}
use mathlib.Core.Logic.{◌≢◌, ⊎_elim}
use mathlib.Core.Bool.{Bool, true, false, not, ◌&&◌}
use mathlib.Core.List.{List}
use Prim.Native.Nat.{ℕ, zero, suc, ◌+◌, ◌≤◌, ◌<◌}
use native.Mathlib.Omega.{arith}
use lib.ListN.{length, get_or, get_or-map}
use lib.Seq.{ext_get_or}
use borrow.Author.Tests.{eq-eqb, ne_eqb}
use Rattle.seqs.proofs.Numbers.{lt_or_ge}
use Rattle.relax.specs.declared.LayoutEvent.{LayoutEvent}
use Rattle.relax.specs.declared.Segment.{Segment}
use Rattle.relax.specs.Events.{event_at, no_event}
use Rattle.buffer.specs.State.{none}
use Rattle.buffer.specs.Tables.{most_entries}
use Rattle.recording.specs.View.{entries}
use Rattle.recording.proofs.Views.{length_entries, get_d_entries}
use Rattle.fresh.specs.Forms.{width}
use Rattle.fresh.specs.Fresh.{Choice}
use Rattle.fresh.specs.Rounds.{is_far, far_of}
use Rattle.fresh.specs.Segments.{segments, map_offset}
use Rattle.fresh.specs.Order.{Ordered}
use Rattle.fresh.specs.steps.Runs.{Modest, new_starts, after, segment_at}
use Rattle.fresh.proofs.Tests.{by_role}
use Rattle.fresh.proofs.Choices.{far_of_get_d, length_far_of, short_reaches, pads_near, branch_far, long_near}
use Rattle.fresh.proofs.Loops.{segments_get_d, after_suc, after_le}
use Rattle.pool.specs.steps.Pool.{pooled_bound}
use Rattle.layout.specs.steps.Layout.{zero_segment}
use Rattle.layout.specs.steps.Targets.{in_reach, Aims, Aiming, end_before, Adds, is_missed, is_missed_at, missed, Ends}

-- The test of a row, as it is made.
pub missed_none : (ss : List Segment) (e : LayoutEvent) (row : Segment) → row.new_start ≡ none → false ≡ is_missed ss e row
unfolding is_missed
missed_none ss event row e = rw (eq-eqb row.new_start none e, is_missed) refl

pub missed_reach : (ss : List Segment) (event : LayoutEvent) (row : Segment) (target : ℕ) (near : Bool) → row.new_start ≢ none
    → near ≡ in_reach event row.new_end target → target ≡ row.old_end + end_before ss row.new_start → not near ≡ is_missed ss event row
unfolding is_missed
missed_reach ss event row target near some e t = rw (ne_eqb row.new_start none some, is_missed) (ap not (e ∙ ap (in_reach event row.new_end) t))

module _ {es : List LayoutEvent} {c : Choice} {ss : List Segment} (q : Ends es c ss) where
  -- The table has the new ends of the layout.
  pub end_before_lem : (k : ℕ) → k ≤ length es → end_before ss k ≡ (after k 0 0 es c).new
  unfolding after
  end_before_lem zero h = refl
  end_before_lem (suc k) h = q.ends k h

  module _ {at : ℕ → ℕ} (few : length es ≤ most_entries) {i : ℕ} (here : i < length es) (aims : Aims es at (get_or es i no_event) (get_or ss i zero_segment).new_start (get_or ss i zero_segment).old_end) where
    row : Segment
    row = get_or ss i zero_segment

    event : LayoutEvent
    event = get_or es i no_event

    short_end : get_or c i false ≡ false → row.new_end ≡ (segment_at i 0 0 es c).new_start + width event false (segment_at i 0 0 es c).new_start
    unfolding row event segment_at
    short_end s = q.ends i here ∙ (ap (λ x. x.new) (after_suc es 0 0 c i here) ∙ rw s refl)

    -- What a row says of its event is what the segments say.
    missed_far : (not (get_or c i false) && is_missed ss (get_or es i no_event) (get_or ss i zero_segment)) ≡ is_far (λ (l : ℕ). map_offset (segments 0 0 es c) (at l)) (get_or es i no_event) (get_or c i false) (segment_at i 0 0 es c).new_start
    unfolding is_missed row event
    missed_far = by_long (get_or c i false) refl
      where
        g : ℕ → ℕ
        g l = map_offset (segments 0 0 es c) (at l)

        start : ℕ
        start = (segment_at i 0 0 es c).new_start

        by_long : (long : Bool) → get_or c i false ≡ long → (not long && is_missed ss event row) ≡ is_far g event long start
        by_long true s = sym (long_near g event start)
        by_long false s = by_role event
            (λ r. rw (eq-eqb row.new_start none (aims.rests r), is_missed) (sym (pads_near g event false start r)))
            (λ b r. let f = aims.finds b r in
            let target : row.old_end + end_before ss row.new_start ≡ g b.label = omega (arith, f.there c, end_before_lem row.new_start f.count) in
            rw (ne_eqb row.new_start none (λ e. omega (arith, f.count, few, e)), is_missed)
            (ap (λ (x : ℕ). not (in_reach event row.new_end x)) target
            ∙ (ap (λ (x : ℕ). not (in_reach event x (g b.label))) (short_end s)
            ∙ (ap not (sym (short_reaches event b r start (g b.label))) ∙ sym (branch_far g event b false start r)))))

  module _ {at : ℕ → ℕ} {events : List ℕ} {n : ℕ} (few : length es ≤ most_entries) (first : (i : ℕ) → i < n → get_or es i no_event ≡ event_at events i) (less : n ≤ length es) (aiming : Aiming es at events n ss) where
    aims_at : (i : ℕ) → i < n → Aims es at (get_or es i no_event) (get_or ss i zero_segment).new_start (get_or ss i zero_segment).old_end
    aims_at i h = rw (first i h) (aiming.aims i h)

    -- So a round lengthens by the rows what it lengthens by the segments.
    pub missed_list : missed ss events c n ≡ far_of (λ (l : ℕ). map_offset (segments 0 0 es c) (at l)) (entries (event_at events) n) c (new_starts (segments 0 0 es c))
    missed_list =
        let g : ℕ → ℕ = λ l. map_offset (segments 0 0 es c) (at l) in
        let made = segments 0 0 es c in
        let tested : ℕ → Bool = λ i. is_missed_at ss events (get_or c i false) i in
        let count = length_entries tested n in
        let recorded = length_entries (event_at events) n in
        ext_get_or false (missed ss events c n) (far_of g (entries (event_at events) n) c (new_starts made)) (omega (arith, count, length_far_of g (entries (event_at events) n) c (new_starts made), recorded))
        (λ i l.
        let h : i < n = omega (arith, count) in
        let here : i < length es = omega arith in
        let start : get_or (new_starts made) i 0 ≡ (segment_at i 0 0 es c).new_start
        = get_or-map (λ (s : Segment). s.new_start) made i zero_segment ∙ ap (λ (s : Segment). s.new_start) (segments_get_d es 0 0 c i zero_segment here) in
        get_d_entries tested n i false h
        ∙ (ap (λ (e : LayoutEvent). not (get_or c i false) && is_missed ss e (get_or ss i zero_segment)) (sym (first i h))
        ∙ (missed_far few here (aims_at i h)
        ∙ sym (far_of_get_d g (entries (event_at events) n) c (new_starts made) i no_event (omega (arith, recorded))
        ∙ rw (get_d_entries (event_at events) n i no_event h, start, first i h) refl))))

    -- And its sums are words.
    pub rows_add : (len : ℕ) → Ordered 0 len es → Modest es → len ≤ pooled_bound → length es ≤ length ss → (i : ℕ) → i < n → Adds ss (get_or ss i zero_segment)
    unfolding segment_at
    rows_add len ordered modest small room i h =
        let aims = aims_at i h in
        let row = get_or ss i zero_segment in
        record {
          count = λ some. by_role (get_or es i no_event) (λ r. absurd (some (aims.rests r))) (λ b r. omega (arith, (aims.finds b r).count));
          sum = λ some. by_role (get_or es i no_event)
              (λ r. absurd (some (aims.rests r)))
              (λ b r. let f = aims.finds b r in
              let end = end_before_lem row.new_start f.count in
              let near = after_le es 0 0 len c row.new_start modest ordered f.count in
              ⊎_elim
              (λ lt. omega (arith, f.small lt, end, near, f.count, few))
              (λ ge. let z : row.new_start ≡ 0 = omega arith in omega (arith, f.word, ap (end_before ss) z))
              (lt_or_ge 0 row.new_start));
        }
