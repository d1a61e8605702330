-- `label_inside` meets its contract: what was found among the labels passed.
use mathlib.Core.Path.{◌≡◌}
use Prim.Native.Nat.{◌≤◌}
use Rattle.buffer.specs.Refusals.{label_inside}
use Rattle.buffer.proofs.jumps.label_inside.Given as goal

abbrev pub invariant-loop-i : goal.invariant-loop-i
invariant-loop-i l = (l.i ≤ l.n) × (l.found ≡ label_inside l.labels l.i l.start l.end)
