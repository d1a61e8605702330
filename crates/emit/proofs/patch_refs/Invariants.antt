-- `patch_refs` meets its contract: after i turns the first i refs are filled.
use Rattle.std.proofs.Common.{◌≡◌}
use Rattle.emit.specs.steps.Emit.{refs_filled}
use Rattle.emit.proofs.patch_refs.Given as goal

abbrev pub invariant-loop-i : goal.invariant-loop-i
invariant-loop-i l = l.output ≡ refs_filled l.initial.output l.refs l.labels l.offsets.segments.now l.offsets.count l.i
