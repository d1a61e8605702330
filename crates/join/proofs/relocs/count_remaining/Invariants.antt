-- `count_remaining` meets its contract: how many of the pieces passed remain.
use Rattle.std.proofs.Common.{◌≡◌, ◌≤◌}
use Rattle.join.specs.Pieces.{cursor_at}
use Rattle.join.specs.Join.{count_remaining}
use Rattle.join.proofs.relocs.count_remaining.Given as goal

abbrev pub invariant-loop-k : goal.invariant-loop-k
invariant-loop-k l = (l.k ≤ l.n) × (l.count ≡ count_remaining l.pieces l.relocs l.k) × (l.cursor ≡ cursor_at l.pieces l.k) × (l.count ≤ l.cursor.relocs)
