-- `all_readable` meets its contract: `all` asks of each entry whether it is readable.
use Rattle.std.proofs.Common.{rules}
use borrow.Author.Tests.{tests}
use Rattle.seqs.proofs.Ranges.{all_of_range}
use Rattle.elf.specs.Elf.{readable}
use Rattle.elf.proofs.read.all_readable.Goals as goal

pub returns : goal.returns
returns c = all_of_range (readable c.args.relas.now) c.args.n c.all.ensures.ran (λ x b q k. search (rules, tests))
