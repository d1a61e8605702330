-- `reloc_at` meets its contract.
use Rattle.join.specs.Join.{reloc_of}
use Rattle.join.proofs.relocs.reloc_at.Goals as goal

pub returns : goal.returns
unfolding reloc_of
returns c =
    rw (c.word_at.ensures, c.word_at-2.ensures, c.word_at-3.ensures, c.word_at-4.ensures, c.word_at-5.ensures)
