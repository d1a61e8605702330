-- `put_counts` meets its contract.
use Rattle.wargnifla.proofs.Crossing.{counts_over}
use Rattle.wargnifla.proofs.put_counts.Goals as goal

pub returns : goal.returns
returns c =
    rw (c.put_word.ensures, c.put_four-3.ensures, c.put_four-2.ensures, c.put_four.ensures) (counts_over _ _)
