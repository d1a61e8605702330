-- What appends to the code: a lent part that is copied into or padded, as the slice that holds it gives it back.
use mathlib.Core.Path.{◌≡◌, sym, ◌∙◌}
use mathlib.Core.Bool.{Bool, true, false, cond}
use mathlib.Core.List.{List, ◌++◌}
use Prim.Native.Nat.{ℕ, ◌+◌, ◌-◌, ◌≤◌}
use native.Mathlib.Omega.{arith}
use lib.Dec.{eqb}
use lib.ListN.{length, take, drop, replicate, length-take, length-drop, length-replicate}
use Rattle.seqs.specs.Over.{over}
use Rattle.seqs.proofs.Overwrites.{over_all, over_mid}
use Rattle.encoder.specs.Nops.{nops}
use Rattle.encoder.proofs.Nops.{nops_length}
use Rattle.buffer.specs.Calls.{padding}

part_length : (xs : List ℕ) (at k : ℕ) → at + k ≤ length xs → length (take k (drop at xs)) ≡ k
part_length xs at k h = simp (length-take, length-drop) (omega arith)

-- bytes copied over a part of their length
over_copied : (xs ys : List ℕ) (at k : ℕ) → k ≡ length ys → at + k ≤ length xs
    → take at xs ++ (over (take k (drop at xs)) 0 ys ++ drop k (drop at xs)) ≡ over xs at ys
over_copied xs ys at k e h =
    rw (over_all (take k (drop at xs)) ys (sym (part_length xs at k h ∙ e))) (over_mid xs at k ys (sym e) h)

-- the same, of the part from `at` to its end
pub part_copied : (xs ys : List ℕ) (at : ℕ) → at + length ys ≤ length xs
    → let k = at + length ys - at in take at xs ++ (over (take k (drop at xs)) 0 ys ++ drop k (drop at xs)) ≡ over xs at ys
part_copied xs ys at h = over_copied xs ys at (at + length ys - at) (omega arith) (omega arith)

pub padding_length_lem : (arch n : ℕ) → length (padding arch n) ≡ n
padding_length_lem arch n = by (eqb arch 6)
  where
    by : (t : Bool) → length (cond t (replicate n 0) (nops n)) ≡ n
    by true = length-replicate n 0
    by false = nops_length n

-- a part of n bytes that is padded
pub over_padded : (xs : List ℕ) (at k n arch : ℕ) → k ≡ n → at + k ≤ length xs
    → take at xs ++ (padding arch (length (take k (drop at xs))) ++ drop k (drop at xs)) ≡ over xs at (padding arch n)
over_padded xs at k n arch e h =
    rw (part_length xs at k h, ← e) (over_mid xs at k (padding arch k) (padding_length_lem arch k) h)
