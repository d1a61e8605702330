-- `relocs_fit` meets its contract: each count is looked at before the entries are.
use Rattle.std.proofs.Common.{rules}
use borrow.Author.Tests.{tests}
use Rattle.elf.specs.Elf.{relocs_fit}
use Rattle.elf.proofs.write.relocs_fit.Goals as goal

pub returns-then-code-relocs : goal.returns-then-code-relocs
unfolding relocs_fit
returns-then-code-relocs c = search (rules, tests)

pub returns-else-code-relocs : goal.returns-else-code-relocs
unfolding relocs_fit
returns-else-code-relocs c = search (rules, tests)
