-- `is_each_marked` meets its contract: `all` asks of each constant whether it has no label or is marked.
use Rattle.std.proofs.Common.{rules}
use borrow.Author.Tests.{tests}
use Rattle.seqs.proofs.Ranges.{all_of_range}
use Rattle.checks.specs.steps.Handed.{unlabelled_or}
use Rattle.checks.proofs.entries.is_each_marked.Goals as goal

pub returns : goal.returns
returns c = all_of_range (unlabelled_or c.args.constants.now c.args.seen.now) c.args.n c.all.ensures.ran (λ x b q k. search (rules, tests))
