-- `shift_for` meets its contract: 22 bits are enough.
use Prim.Native.Nat.{◌-◌, ◌≤◌}
use Rattle.lookup.proofs.shift_for.Given as goal

abbrev pub invariant-loop-shift : goal.invariant-loop-shift
invariant-loop-shift l = l.shift ≤ 22

abbrev pub decreases-loop-shift : goal.decreases-loop-shift
decreases-loop-shift l = 22 - l.shift
