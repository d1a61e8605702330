-- `rela_of` meets its contract.
use Rattle.std.proofs.Common.{arith, rules}
use Rattle.elf.specs.Elf.{rela_of}
use Rattle.elf.proofs.write.rela_of.Goals as goal

pub target_offset-offset-requires : goal.target_offset-offset-requires
target_offset-offset-requires c =
    λ label. omega (arith, c.word_at-target.ensures, c.requires.labels_within (omega (arith, c.word_at-target.ensures, label)))

pub returns : goal.returns
unfolding rela_of
returns c = search rules
