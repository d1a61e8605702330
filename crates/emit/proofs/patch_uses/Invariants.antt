-- `patch_uses` meets its contract: after i turns the first i uses are patched.
use Rattle.std.proofs.Common.{◌≡◌}
use Rattle.emit.specs.steps.Emit.{uses_filled}
use Rattle.emit.proofs.patch_uses.Given as goal

abbrev pub invariant-loop-i : goal.invariant-loop-i
invariant-loop-i l = l.output ≡ uses_filled l.initial.output l.uses l.labels l.i
