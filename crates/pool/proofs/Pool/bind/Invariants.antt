-- `bind` meets its contract: after j turns the labels of the first j constants are bound, and `at` is where constant j's alignment starts.
use mathlib.Core.Path.{◌≡◌}
use Prim.Native.Nat.{◌+◌, ◌*◌, ◌≤◌}
use lib.ListN.{length}
use Rattle.pool.specs.steps.Pool.{pool_start, pool_bound, most_pooled}
use Rattle.pool.proofs.Pool.bind.Given as goal

abbrev pub invariant-loop-j : goal.invariant-loop-j
invariant-loop-j l = (l.j ≤ l.self.count) × (l.at ≡ pool_start l.from l.self.constants.now l.self.asked.now l.j) × (l.at ≤ l.from + l.j * most_pooled) × (length l.labels ≡ length l.initial.labels) × (l.labels ≡ pool_bound l.from l.initial.labels l.self.constants.now l.self.asked.now l.j)
