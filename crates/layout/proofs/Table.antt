-- The ss of a layout: the table that `map` searches.
use mathlib.Core.Path.{◌≡◌, ◌∙◌, ap}
use mathlib.Core.Bool.{false}
use mathlib.Core.List.{List}
use Prim.Native.Nat.{ℕ, ◌+◌, ◌-◌, ◌≤◌, ◌<◌}
use native.Mathlib.Omega.{arith}
use lib.ListN.{length, get_or, take}
use Rattle.seqs.specs.Over.{over}
use Rattle.seqs.proofs.Overwrites.{length_over, get_d_over_in, take_over_end}
use Rattle.relax.specs.declared.LayoutEvent.{LayoutEvent}
use Rattle.relax.specs.declared.Segment.{Segment}
use Rattle.relax.specs.Events.{start_of, no_event}
use Rattle.buffer.specs.Tables.{most_entries}
use Rattle.fresh.specs.Fresh.{Choice}
use Rattle.fresh.specs.Segments.{segments}
use Rattle.fresh.specs.Order.{Ordered}
use Rattle.fresh.specs.steps.Runs.{Modest, after, segment_at}
use Rattle.fresh.proofs.Events.{starts_rise}
use Rattle.fresh.proofs.Forms.{width_small}
use Rattle.fresh.proofs.Loops.{length_segments, segments_get_d, after_le, after_start_lem, modest_at}
use Rattle.pool.specs.steps.Pool.{pooled_bound}
use Rattle.layout.specs.steps.Layout.{zero_segment, Rising}

module _ (before ss : List Segment) (es : List LayoutEvent) (c : Choice) (laid : ss ≡ over before 0 (segments 0 0 es c)) (room : length es ≤ length before) where
  pub length_laid : length ss ≡ length before
  length_laid = ap length laid ∙ length_over before 0 (segments 0 0 es c)

  -- The table holds the segments.
  pub table_laid : take (length es) ss ≡ segments 0 0 es c
  table_laid =
      let e : 0 + length (segments 0 0 es c) ≡ length es = omega (arith, length_segments es 0 0 c) in
      rw (laid, ← e) (take_over_end before 0 (segments 0 0 es c) (omega (arith, length_segments es 0 0 c)))

  -- Entry i is segment i.
  pub segment_laid : (i : ℕ) → i < length es → get_or ss i zero_segment ≡ segment_at i 0 0 es c
  segment_laid i h =
      let e : 0 + i ≡ i = omega arith in
      let k : i < length (segments 0 0 es c) = omega (arith, length_segments es 0 0 c) in
      ap (λ (l : List Segment). get_or l i zero_segment) laid
      ∙ ((rw e at (get_d_over_in before 0 (segments 0 0 es c) i zero_segment k (omega arith)))
      ∙ segments_get_d es 0 0 c i zero_segment h)

  -- It is as `map` wants it.
  pub rising_laid : (len : ℕ) → Ordered 0 len es → Modest es → len ≤ pooled_bound → length es ≤ most_entries → Rising ss (length es)
  unfolding segment_at
  rising_laid len o m small few = record {
    fits = omega (arith, length_laid);
    rises = λ i j le h.
        omega (
          arith,
          starts_rise es 0 len i j o le h,
          ap (λ (s : Segment). s.old_start) (segment_laid i (omega arith)),
          ap (λ (s : Segment). s.old_start) (segment_laid j h),
        );
    small = λ i h.
        let there = after i 0 0 es c in
        let e = get_or es i no_event in
        omega (
          arith,
          ap (λ (s : Segment). s.new_start) (segment_laid i h),
          ap (λ (s : Segment). s.new_end) (segment_laid i h),
          after_le es 0 0 len c i m o (omega arith),
          after_start_lem es 0 0 len c i o h,
          width_small e (get_or c i false) (there.new + (start_of e - there.old)) (modest_at es i m h),
        );
  }
