-- `write` meets its contract: after j turns the bytes of the first j constants are written.
use mathlib.Core.Path.{◌≡◌}
use Prim.Native.Nat.{◌≤◌}
use lib.ListN.{length}
use Rattle.pool.specs.steps.Pool.{pool_written}
use Rattle.pool.proofs.Pool.write.Given as goal

abbrev pub invariant-loop-j : goal.invariant-loop-j
invariant-loop-j l = (l.j ≤ l.self.count) × (length l.output ≡ length l.initial.output) × (l.output ≡ pool_written l.initial.output l.labels l.self.constants.now l.self.asked.now l.j)
