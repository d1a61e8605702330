-- `sum` meets its contract: the cursor behind the pieces passed, which is near.
use Rattle.std.proofs.Common.{◌≡◌, ◌≤◌}
use Rattle.join.specs.Pieces.{cursor_at}
use Rattle.join.specs.steps.Within.{NearBy}
use Rattle.join.proofs.pieces.sum.Given as goal

abbrev pub invariant-loop-k : goal.invariant-loop-k
invariant-loop-k l = (l.k ≤ l.n) × (l.cursor ≡ cursor_at l.pieces l.k) × NearBy l.k l.cursor
