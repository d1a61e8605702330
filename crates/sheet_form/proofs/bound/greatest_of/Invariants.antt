-- `greatest_of` meets its contract: the greatest offset among the labels passed.
use mathlib.Core.Path.{◌≡◌}
use Prim.Native.Nat.{◌≤◌}
use Rattle.buffer.specs.State.{none}
use Rattle.buffer.specs.steps.Below.{greatest_below}
use Rattle.sheet_form.proofs.bound.greatest_of.Given as goal

abbrev pub invariant-loop-i : goal.invariant-loop-i
invariant-loop-i l = (l.i ≤ l.n) × (l.most ≡ greatest_below l.labels l.i none)
