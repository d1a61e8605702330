-- `put_four` meets its contract.
use Rattle.wargnifla.proofs.Crossing.{four_over}
use Rattle.wargnifla.proofs.put_four.Goals as goal

pub returns : goal.returns
returns c =
    four_over (record {
      first = c.put_word.ensures;
      second = c.put_word-2.ensures;
      third = c.put_word-3.ensures;
      fourth = c.put_word-4.ensures;
    })
