-- `put_record` meets its contract.
use Rattle.wargnifla.proofs.Crossing.{record_over}
use Rattle.wargnifla.proofs.put_record.Goals as goal

pub returns : goal.returns
returns c =
    rw (c.put_word-2.ensures, c.put_word.ensures, c.put_four.ensures) (record_over _ _)
