-- `is_readable` meets its contract.
use Rattle.std.proofs.Common.{rules}
use borrow.Author.Tests.{tests}
use Rattle.elf.specs.Elf.{readable}
use Rattle.elf.proofs.read.is_readable.Goals as goal

pub returns-then-word_at-eq0 : goal.returns-then-word_at-eq0
unfolding readable
returns-then-word_at-eq0 c = search (rules, tests)

pub returns-else-word_at-eq0 : goal.returns-else-word_at-eq0
unfolding readable
returns-else-word_at-eq0 c = search (rules, tests)
