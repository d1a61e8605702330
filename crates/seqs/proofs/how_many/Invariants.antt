-- `how_many` meets its contract: after i turns the numbers below i are counted.
use Rattle.std.proofs.Common.{◌≤◌}
use Rattle.seqs.specs.Counting.{Counts}
use Rattle.seqs.proofs.how_many.Given as goal

abbrev pub invariant-loop-i : goal.invariant-loop-i
invariant-loop-i g l = (l.i ≤ l.n) × (l.found ≤ l.i) × Counts (goal.F-post g l.has) l.i l.found
