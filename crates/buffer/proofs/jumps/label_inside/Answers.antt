-- `label_inside` meets its contract: what was found among the labels passed.
use Rattle.std.proofs.Common.{refl, arith}
use Rattle.buffer.specs.Refusals.{label_inside}
use Rattle.buffer.proofs.Scan.{scan_step}
use Rattle.buffer.proofs.jumps.label_inside.Goals as goal

pub loop-i-init : goal.loop-i-init
unfolding label_inside
loop-i-init c =
    (omega arith, refl)

pub loop-i-preserved : goal.loop-i-preserved
loop-i-preserved c =
    (omega arith, rw (c.word_at-at.ensures, c.loop-i.invariant.1) (scan_step _ _ _ _))
