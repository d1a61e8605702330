-- `end` meets its contract: after j turns, `at` is where constant j's alignment starts.
use mathlib.Core.Path.{◌≡◌}
use Prim.Native.Nat.{◌+◌, ◌*◌, ◌≤◌}
use Rattle.pool.specs.steps.Pool.{pool_start, most_pooled}
use Rattle.pool.proofs.Pool.end.Given as goal

abbrev pub invariant-loop-j : goal.invariant-loop-j
invariant-loop-j l = (l.j ≤ l.self.count) × (l.at ≡ pool_start l.from l.self.constants.now l.self.asked.now l.j) × (l.at ≤ l.from + l.j * most_pooled)
