-- `put_reloc` meets its contract: six words, one after another.
use Rattle.buffer.proofs.relocs.put_reloc.Goals as goal

pub returns : goal.returns
returns c =
    rw (c.put_word-6.ensures, c.put_word-5.ensures, c.put_word-4.ensures, c.put_word-3.ensures, c.put_word-2.ensures, c.put_word.ensures)
