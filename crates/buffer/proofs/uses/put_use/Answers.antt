-- `put_use` meets its contract: three words, one after another.
use Rattle.buffer.proofs.uses.put_use.Goals as goal

pub returns : goal.returns
returns c =
    rw (c.put_word-3.ensures, c.put_word-2.ensures, c.put_word.ensures)
