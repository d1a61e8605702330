-- `shift_for` meets its contract: 22 bits are enough.
use Prim.Native.Nat.{◌<◌}
use native.Mathlib.Omega.{arith}
use lib.Pow.{shr_le}
use Rattle.lookup.proofs.Index.{shift_grows}
use Rattle.lookup.proofs.shift_for.Goals as goal

-- in a turn some bits are left
left : (c : goal.In-loop-shift) → c.loop-shift.shift < 22
left c =
    shift_grows c.args.end c.loop-shift.shift c.parts_of-told.result c.ranges.end.fits c.loop-shift.invariant c.parts_of-told.ensures.1 c.loop-shift-test.true

pub loop-shift-init : goal.loop-shift-init
loop-shift-init c = omega arith

pub overflow_shr-end : goal.overflow_shr-end
overflow_shr-end c = omega arith

pub overflow_cast-end : goal.overflow_cast-end
overflow_cast-end c =
    omega (arith, shr_le c.args.end c.loop-shift.shift, c.ranges.end.fits)

pub overflow_add-shift : goal.overflow_add-shift
overflow_add-shift c = omega arith

pub loop-shift-smaller : goal.loop-shift-smaller
loop-shift-smaller c = omega (arith, left c)

pub loop-shift-preserved : goal.loop-shift-preserved
loop-shift-preserved c = omega (arith, left c)

pub returns : goal.returns
returns c =
    record { small = omega arith; told_apart = λ s. omega (arith, c.parts_of-told.ensures.0 s) }
