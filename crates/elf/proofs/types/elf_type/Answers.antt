-- `elf_type` meets its contract, architecture by architecture.
use Rattle.std.proofs.Common.{rules}
use Rattle.seqs.proofs.Picking.{picks}
use Rattle.elf.specs.Elf.{elf_type_of}
use Rattle.elf.proofs.types.elf_type.Goals as goal

pub returns-in-2 : goal.returns-in-2
unfolding elf_type_of
returns-in-2 c = search (rules, picks)

pub returns-in-6 : goal.returns-in-6
unfolding elf_type_of
returns-in-6 c = search (rules, picks)

pub returns-in_default : goal.returns-in_default
unfolding elf_type_of
returns-in_default c = search (rules, picks)
