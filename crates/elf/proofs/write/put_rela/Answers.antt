-- `put_rela` meets its contract: six words, one after another.
use Rattle.elf.proofs.Entries.{six_over}
use Rattle.elf.proofs.write.put_rela.Goals as goal

pub returns : goal.returns
returns c =
    rw (c.put_word-6.ensures, c.put_word-5.ensures, c.put_word-4.ensures, c.put_word-3.ensures, c.put_word-2.ensures, c.put_word.ensures)
    (six_over _ _ _ _ _ _ _ _)
