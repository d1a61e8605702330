-- `relas_fit` meets its contract.
use Rattle.std.proofs.Common.{rules}
use borrow.Author.Tests.{tests}
use Rattle.elf.specs.Elf.{relas_fit}
use Rattle.elf.proofs.read.relas_fit.Goals as goal

pub returns-then-relas-eq0 : goal.returns-then-relas-eq0
unfolding relas_fit
returns-then-relas-eq0 c = search (rules, tests)

pub returns-else-relas-eq0 : goal.returns-else-relas-eq0
unfolding relas_fit
returns-else-relas-eq0 c = search (rules, tests)
