-- `greatest_alignment` meets its contract: the greatest of the pieces passed.
use Rattle.std.proofs.Common.{◌≡◌, ◌≤◌}
use Rattle.join.specs.Pieces.{greatest_alignment}
use Rattle.join.proofs.pieces.greatest_alignment.Given as goal

abbrev pub invariant-loop-k : goal.invariant-loop-k
invariant-loop-k l = (l.k ≤ l.n) × (l.greatest ≡ greatest_alignment l.pieces l.k)
