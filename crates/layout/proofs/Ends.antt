-- The new ends of events in their rows.
use mathlib.Core.Path.{◌≡◌, refl, sym, ◌∙◌, ap}
use mathlib.Core.Logic.{⊎_elim}
use mathlib.Core.List.{List, [], ◌++◌}
use Prim.Native.Nat.{ℕ, suc, ◌+◌, ◌-◌, ◌≤◌, ◌<◌}
use native.Mathlib.Omega.{arith}
use lib.ListN.{length, get_or, get_or-append}
use lib.Seq.{get_or-append-add}
use Rattle.seqs.specs.Over.{over}
use Rattle.seqs.proofs.Numbers.{lt_or_ge}
use Rattle.seqs.proofs.Overwrites.{length_over, get_d_over_in, get_d_over_before}
use Rattle.relax.specs.declared.LayoutEvent.{LayoutEvent}
use Rattle.relax.specs.declared.Segment.{Segment}
use Rattle.relax.specs.Events.{event_at}
use Rattle.recording.specs.View.{entries}
use Rattle.recording.proofs.Views.{length_entries, get_d_entries}
use Rattle.fresh.specs.Fresh.{Choice}
use Rattle.fresh.specs.Segments.{segments}
use Rattle.fresh.specs.steps.Runs.{Cursor, after, segment_at}
use Rattle.fresh.proofs.Loops.{length_segments, segments_get_d, after_suc}
use Rattle.pool.specs.steps.Pool.{pool_event}
use Rattle.layout.specs.steps.Layout.{zero_segment, all_events}
use Rattle.layout.specs.steps.Targets.{ended_row, Ended, Placed}
use Rattle.layout.proofs.Pooling.{length_all, segments_all}
use Rattle.layout.proofs.SamePast.{same_past_more, same_past_over}

-- A round's layout: the ends of the recorded events, and then the pool's segments.
module _ (events : List ℕ) (n code : ℕ) (constants asked : List ℕ) (m : ℕ) (c : Choice) {before ss ss' : List Segment} {old new : ℕ}
    (recorded : Ended before ss (entries (event_at events) n) c n old new) (low : old ≤ code) (room : n + m ≤ length before)
    (pooled : ss' ≡ over ss n (segments code (new + (code - old)) (entries (pool_event code constants asked) m) [])) where
  first : List LayoutEvent
  first = entries (event_at events) n

  rest : List Segment
  rest = segments code (new + (code - old)) (entries (pool_event code constants asked) m) []

  length_rest : length rest ≡ m
  unfolding rest
  length_rest = length_segments (entries (pool_event code constants asked) m) code (new + (code - old)) [] ∙ length_entries (pool_event code constants asked) m

  length_ended : length ss ≡ length before
  length_ended = ap length recorded.table ∙ length_over before 0 (entries (ended_row before (entries (event_at events) n) c) n)

  all_segments : segments 0 0 (all_events events n code constants asked m) c ≡ segments 0 0 first c ++ rest
  unfolding first rest
  all_segments =
      segments_all events n code constants asked c old new (new + (code - old))
      (ap (λ (k : ℕ). after k 0 0 (entries (event_at events) n) c) (length_entries (event_at events) n) ∙ recorded.here) low refl m

  end_is : (i : ℕ) → i < n + m → (get_or (segments 0 0 first c ++ rest) i zero_segment).new_end ≡ (after (suc i) 0 0 (all_events events n code constants asked m) c).new
  unfolding first rest segment_at
  end_is i h =
      let here : i < length (all_events events n code constants asked m) = omega (arith, length_all events n code constants asked m) in
      ap (λ (l : List Segment). (get_or l i zero_segment).new_end) (sym all_segments)
      ∙ (ap (λ (s : Segment). s.new_end) (segments_get_d (all_events events n code constants asked m) 0 0 c i zero_segment here)
      ∙ sym (ap (λ (x : Cursor). x.new) (after_suc (all_events events n code constants asked m) 0 0 c i here)))

  row_is : (i : ℕ) → i < n → get_or ss' i zero_segment ≡ ended_row before (entries (event_at events) n) c i
  unfolding first rest
  row_is i h =
      let z : 0 + i ≡ i = omega arith in
      let rows = entries (ended_row before (entries (event_at events) n) c) n in
      let count = length_entries (ended_row before (entries (event_at events) n) c) n in
      ap (λ (l : List Segment). get_or l i zero_segment) pooled
      ∙ (get_d_over_before ss n rest i zero_segment h
      ∙ (ap (λ (l : List Segment). get_or l i zero_segment) recorded.table
      ∙ ((rw z at (get_d_over_in before 0 rows i zero_segment (omega (arith, count)) (omega arith)))
      ∙ get_d_entries (ended_row before (entries (event_at events) n) c) n i zero_segment h)))

  pub placed : Placed before ss' (all_events events n code constants asked m) n c
  unfolding first rest segment_at
  placed =
      let size = length_all events n code constants asked m in
      record {
        placed = record {
          ends = λ i h. ⊎_elim
              (λ lt.
              let here : i < length first = omega (arith, length_entries (event_at events) n) in
              ap (λ (s : Segment). s.new_end) (row_is i lt)
              ∙ (ap (λ (x : Cursor). x.new) (after_suc first 0 0 c i here)
              ∙ (sym (ap (λ (s : Segment). s.new_end) (get_or-append (segments 0 0 first c) rest zero_segment i (omega (arith, length_segments first 0 0 c))
              ∙ segments_get_d first 0 0 c i zero_segment here))
              ∙ end_is i (omega (arith, size)))))
              (λ ge.
              let at : i ≡ n + (i - n) = omega arith in
              let at' : i ≡ length (segments 0 0 first c) + (i - n) = omega (arith, length_segments first 0 0 c, length_entries (event_at events) n) in
              let k : i - n < length rest = omega (arith, size, length_rest) in
              ap (λ (l : List Segment). (get_or l i zero_segment).new_end) pooled
              ∙ (ap (λ (x : ℕ). (get_or (over ss n rest) x zero_segment).new_end) at
              ∙ (ap (λ (s : Segment). s.new_end) (get_d_over_in ss n rest (i - n) zero_segment k (omega (arith, length_rest, length_ended)))
              ∙ (sym (ap (λ (x : ℕ). (get_or (segments 0 0 first c ++ rest) x zero_segment).new_end) at'
              ∙ ap (λ (s : Segment). s.new_end) (get_or-append-add (segments 0 0 first c) rest (i - n) zero_segment))
              ∙ end_is i (omega (arith, size))))))
              (lt_or_ge i n);
        };
        passed = λ i h. ap (λ (s : Segment). s.new_start) (row_is i h);
        beyond = λ i h. ap (λ (s : Segment). s.old_end) (row_is i h);
        rest =
            rw (pooled, recorded.table)
            (same_past_more (same_past_over (length (all_events events n code constants asked m)) before 0 _ (omega (arith, size, length_entries (ended_row before (entries (event_at events) n) c) n)))
            (same_past_over (length (all_events events n code constants asked m)) _ n rest (omega (arith, size, length_rest))) (omega arith));
      }
