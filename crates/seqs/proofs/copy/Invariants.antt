-- `copy` meets its contract: after as many turns as `at` counts, `dst` is overwritten by as many bytes of `src`.
use Rattle.std.proofs.Common.{◌≡◌, ◌≤◌, min, length, take}
use Rattle.seqs.specs.Over.{over}
use Rattle.seqs.proofs.copy.Given as goal

abbrev pub invariant-loop-at : goal.invariant-loop-at
invariant-loop-at l =
    (l.at ≤ l.n) × (l.n ≡ min (length l.src) (length l.initial.dst)) × (l.dst ≡ over l.initial.dst 0 (take l.at l.src)) × (length l.dst ≡ length l.initial.dst)
