-- `unbind` meets its contract: after j turns the labels of the first j constants are unbound.
use mathlib.Core.Path.{◌≡◌}
use Prim.Native.Nat.{◌≤◌}
use lib.ListN.{length}
use Rattle.pool.specs.steps.Pool.{pool_unbound}
use Rattle.pool.proofs.Pool.unbind.Given as goal

abbrev pub invariant-loop-j : goal.invariant-loop-j
invariant-loop-j l = (l.j ≤ l.self.count) × (length l.labels ≡ length l.initial.labels) × (l.labels ≡ pool_unbound l.initial.labels l.self.constants.now l.self.asked.now l.j)
