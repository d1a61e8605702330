-- `put_ref` meets its contract: four words, one after another.
use Rattle.buffer.proofs.uses.put_ref.Goals as goal

pub returns : goal.returns
returns c =
    rw (c.put_word-4.ensures, c.put_word-3.ensures, c.put_word-2.ensures, c.put_word.ensures)
