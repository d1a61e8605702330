-- `emit` meets its contract: after j turns what the first j constants take is written, and `at` is where constant j's alignment starts.
use mathlib.Core.Path.{◌≡◌}
use Prim.Native.Nat.{◌+◌, ◌*◌, ◌≤◌}
use lib.ListN.{length}
use Rattle.seqs.specs.Over.{over}
use Rattle.pool.specs.steps.Pool.{pool_start, pool_bytes, most_pooled}
use Rattle.pool.proofs.Pool.emit.Given as goal

abbrev pub invariant-loop-j : goal.invariant-loop-j
invariant-loop-j l = (l.j ≤ l.self.count) × (l.at ≡ pool_start l.from l.self.constants.now l.self.asked.now l.j) × (l.at ≤ l.from + l.j * most_pooled) × (length l.output ≡ length l.initial.output) × (l.output ≡ over l.initial.output l.from (pool_bytes l.arch l.from l.self.constants.now l.self.asked.now l.j))
