-- `patch_jumps` meets its contract: after i turns the displacements of the first i jumps are written.
use Rattle.std.proofs.Common.{◌≡◌}
use Rattle.emit.specs.steps.Emit.{jumps_filled}
use Rattle.emit.proofs.patch_jumps.Given as goal

abbrev pub invariant-loop-i : goal.invariant-loop-i
invariant-loop-i l = l.output ≡ jumps_filled l.initial.output l.events l.labels l.long l.segments l.i
