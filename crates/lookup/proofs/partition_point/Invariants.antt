-- `partition_point` meets its contract: each turn halves what is not told apart yet.
use Rattle.std.proofs.Common.{true, false, ◌-◌, ◌≤◌, ◌<◌}
use Rattle.lookup.proofs.partition_point.Given as goal

abbrev pub invariant-loop-low : goal.invariant-loop-low
invariant-loop-low g l =
    (l.fn.low ≤ l.low)
    × (l.low ≤ l.high)
    × (l.high ≤ l.fn.high)
    × (l.fn.low < l.low → goal.F-post g l.before (l.low - 1) true)
    × (l.high < l.fn.high → goal.F-post g l.before l.high false)

abbrev pub decreases-loop-low : goal.decreases-loop-low
decreases-loop-low g l = l.high - l.low
