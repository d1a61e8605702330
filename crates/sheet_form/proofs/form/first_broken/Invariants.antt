-- `first_broken` meets its contract: what is left decides.
use mathlib.Core.Path.{◌≡◌}
use Prim.Native.Nat.{◌+◌, ◌*◌, ◌≤◌}
use lib.ListN.{length, drop}
use Rattle.sheet_form.specs.Form.{first_broken, argument_size}
use Rattle.sheet_form.proofs.form.first_broken.Given as goal

abbrev pub invariant-loop-i : goal.invariant-loop-i
invariant-loop-i l = (l.i ≤ length l.kinds) × (l.i + first_broken (drop l.i l.kinds) (drop (l.i * argument_size) l.arguments) ≡ first_broken l.kinds l.arguments)
