-- `code_alignment` meets its contract: after j turns, `alignment` is the greater of 32 and the largest of the first j.
use mathlib.Core.Path.{◌≡◌}
use Prim.Native.Nat.{◌≤◌}
use Rattle.pool.specs.steps.Pool.{pool_alignment}
use Rattle.pool.proofs.Pool.code_alignment.Given as goal

abbrev pub invariant-loop-j : goal.invariant-loop-j
invariant-loop-j l = (l.j ≤ l.self.count) × (l.alignment ≡ pool_alignment l.self.constants.now l.self.asked.now l.j)
