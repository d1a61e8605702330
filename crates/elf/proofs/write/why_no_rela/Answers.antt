-- `why_no_rela` meets its contract: no type, a sum that leaves signed 64 bits, neither.
use Rattle.std.proofs.Common.{rules}
use Rattle.seqs.proofs.Picking.{picks}
use Rattle.elf.specs.Elf.{why_no_rela}
use Rattle.elf.proofs.write.why_no_rela.Goals as goal

pub returns-then-elf_type-eq-NO_TYPE : goal.returns-then-elf_type-eq-NO_TYPE
unfolding why_no_rela
returns-then-elf_type-eq-NO_TYPE c = search (rules, picks)

pub target_offset-offset-requires : goal.target_offset-offset-requires
target_offset-offset-requires c = search rules

pub returns-then-leaves_signed : goal.returns-then-leaves_signed
unfolding why_no_rela
returns-then-leaves_signed c = search (rules, picks)

pub returns : goal.returns
unfolding why_no_rela
returns c = search (rules, picks)
