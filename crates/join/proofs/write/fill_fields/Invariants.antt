-- `fill_fields` meets its contract: the fields passed are filled.
use Rattle.std.proofs.Common.{◌≡◌, ◌≤◌}
use Rattle.join.specs.Symbols.{find}
use Rattle.join.specs.Join.{filled_with}
use Rattle.join.proofs.write.fill_fields.Given as goal

abbrev pub invariant-loop-j : goal.invariant-loop-j
invariant-loop-j l = (l.j ≤ l.placed.piece.relocs) × (l.part ≡ filled_with (find l.resolver.pieces.now l.resolver.labels.now l.resolver.definitions.now l.resolver.count) l.relocs l.placed.piece l.placed.cursor l.initial.part l.j)
