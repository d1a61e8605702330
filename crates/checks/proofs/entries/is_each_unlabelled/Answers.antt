-- `is_each_unlabelled` meets its contract: `all` asks of each constant whether it has no label.
use Rattle.std.proofs.Common.{rules}
use borrow.Author.Tests.{tests}
use Rattle.seqs.proofs.Ranges.{all_of_range}
use Rattle.checks.specs.steps.Handed.{unlabelled}
use Rattle.checks.proofs.entries.is_each_unlabelled.Goals as goal

pub returns : goal.returns
returns c = all_of_range (unlabelled c.args.constants.now) c.args.n c.all.ensures.ran (λ x b q k. search (rules, tests))
