-- `greatest_alignment` meets its contract: the greatest of those passed.
use Rattle.std.proofs.Common.{rules, add-one}
use Rattle.join.specs.Pieces.{greatest_alignment}
use Rattle.join.proofs.pieces.greatest_alignment.Goals as goal

pub loop-k-init : goal.loop-k-init
unfolding greatest_alignment
loop-k-init c = search rules

pub loop-k-preserved : goal.loop-k-preserved
unfolding greatest_alignment
loop-k-preserved c = rw (add-one c.loop-k.k) (search rules)
