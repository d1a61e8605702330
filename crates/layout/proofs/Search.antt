-- The search of a segment by halving: where it starts and ends, and what is found decides.
use mathlib.Core.Path.{◌≡◌, refl, sym}
use mathlib.Core.Logic.{◌≢◌}
use mathlib.Core.Bool.{Bool}
use mathlib.Core.List.{List}
use Prim.Native.Nat.{ℕ, ◌-◌, ◌≤◌, ◌<◌}
use native.Mathlib.Omega.{arith}
use lib.Dec.{leb}
use lib.ListN.{length, get_or, take}
use lib.Seq.{get_or-take, length-take-le}
use borrow.Author.Tests.{eq-eqb, ne_eqb}
use Rattle.lookup.specs.steps.Index.{part, Rises, Indexed, Narrowed, Parted}
use Rattle.lookup.proofs.Index.{narrowed_around}
use Rattle.lookup.proofs.Partition.{divided_most}
use Rattle.relax.specs.declared.Segment.{Segment}
use Rattle.buffer.specs.State.{none}
use Rattle.fresh.specs.Segments.{image, map_offset}
use Rattle.fresh.proofs.Loops.{decided_skip, decided_last}
use Rattle.layout.specs.steps.Layout.{zero_segment, start_at, Rising, Sorted, Between}

-- Where the search starts, by the index.
pub between_first : {index : List ℕ} {ss : List Segment} {n shift : ℕ} (offset : ℕ) {low high : ℕ} → Indexed index (start_at ss) n shift
    → Narrowed index n (part (length index) shift offset) low high → Between ss n offset low high
between_first offset x w =
    let around = narrowed_around offset x w in
    record { order = around.order; within = around.within; under = λ j h. omega (arith, around.under j h); above = around.above }

pub sorted_rises : {ss : List Segment} {n : ℕ} → Sorted ss n → Rises (start_at ss) n
sorted_rises sorted = record { rises = sorted.rises }

pub rising_sorted : {ss : List Segment} {n : ℕ} → Rising ss n → Sorted ss n
rising_sorted rise = record { fits = rise.fits; rises = rise.rises }

-- Where the search ends.
pub between_last : {ss : List Segment} {n offset low high r : ℕ} {answered : ℕ → Bool → Type 0} → Sorted ss n → Between ss n offset low high → Parted answered low high r
    → ((i : ℕ) (b : Bool) → answered i b → b ≡ leb (start_at ss i) offset) → Between ss n offset r r
between_last sorted b p computes =
    let found = divided_most (sorted_rises sorted) b.within p b.under b.above computes in
    record { order = omega arith; within = omega (arith, p.last, b.within); under = λ j l. omega (arith, found.below j l); above = λ j l k. omega (arith, found.above j l k) }

-- `map` keeps 0xFFFFFFFF.
pub map_none : (ss : List Segment) (offset : ℕ) → offset ≡ none → offset ≡ map_offset ss offset
unfolding map_offset
map_none ss offset e = rw (eq-eqb offset none e, map_offset) refl

module _ (ss : List Segment) (n offset : ℕ) (rise : Sorted ss n) where
  count : length (take n ss) ≡ n
  count = length-take-le n ss rise.fits

  module _ (k : ℕ) (b : Between ss n offset k k) (bound : offset ≢ none) where
    late : (j : ℕ) → k ≤ j → j < length (take n ss) → offset < (get_or (take n ss) j zero_segment).old_start
    late j w v = let u : j < n = omega (arith, count) in rw (get_or-take n ss j zero_segment u) (b.above j w u)

    -- No segment starts at or before the offset.
    pub found_none : k ≡ 0 → offset ≡ map_offset (take n ss) offset
    unfolding map_offset
    found_none z =
        rw (ne_eqb offset none bound, map_offset)
        (sym (decided_skip (take n ss) offset offset zero_segment (λ j v. late j (omega arith) v)))

    -- The last of those that do decides.
    pub found_last : k ≢ 0 → image (get_or ss (k - 1) zero_segment) offset ≡ map_offset (take n ss) offset
    unfolding map_offset
    found_last z =
        let w : k - 1 < n = omega (arith, b.within, z) in
        let e : get_or (take n ss) (k - 1) zero_segment ≡ get_or ss (k - 1) zero_segment = get_or-take n ss (k - 1) zero_segment w in
        rw (ne_eqb offset none bound, map_offset, ← e)
        (sym (decided_last (take n ss) offset offset (k - 1) zero_segment (rw count w) (rw e (b.under (k - 1) (omega arith))) (λ j v u. late j (omega arith) u)))
