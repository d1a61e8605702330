-- `count_remaining_in` meets its contract: how many of those passed remain.
use Rattle.std.proofs.Common.{◌≡◌, ◌≤◌}
use Rattle.join.specs.Join.{count_remaining_in}
use Rattle.join.proofs.relocs.count_remaining_in.Given as goal

abbrev pub invariant-loop-j : goal.invariant-loop-j
invariant-loop-j l = (l.j ≤ l.placed.piece.relocs) × (l.count ≡ count_remaining_in l.relocs l.placed.piece l.placed.cursor l.j) × (l.count ≤ l.j)
