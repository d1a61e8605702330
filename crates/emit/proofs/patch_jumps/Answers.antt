-- `patch_jumps` meets its contract: after i turns the displacements of the first i jumps are written.
use Rattle.std.proofs.Common.{◌≡◌, refl, arith}
use Rattle.emit.specs.steps.Emit.{jumps_filled}
use Rattle.emit.proofs.Turns.{jumps_turn}
use Rattle.emit.proofs.patch_jumps.Goals as goal

pub loop-i-init : goal.loop-i-init
unfolding jumps_filled
loop-i-init c = refl

pub segment_at-segment-requires : goal.segment_at-segment-requires
segment_at-segment-requires c =
    omega (arith, c.requires.laid)

pub bounds-long-i : goal.bounds-long-i
bounds-long-i c =
    omega (arith, c.requires.chosen)

pub patch_jump-requires : goal.patch_jump-requires
patch_jump-requires c =
    rw (c.loop-i.auto.output, c.segment_at-segment.ensures) (c.requires.each _ c.loop-i-test.true)

pub loop-i-preserved : goal.loop-i-preserved
loop-i-preserved c =
    let filled = rw c.segment_at-segment.ensures at c.patch_jump.ensures in
    search (jumps_turn, c.loop-i.invariant, filled)

pub returns : goal.returns
returns c =
    let all : c.loop-i.i ≡ c.args.n = omega arith in rw all at c.loop-i.invariant
