-- `constants_fit` meets its contract: `all` asks of each constant whether it fits.
use Rattle.std.proofs.Common.{rules}
use borrow.Author.Tests.{tests}
use Rattle.seqs.proofs.Ranges.{all_of_range}
use Rattle.checks.specs.Entries.{constant_fits, constants_fit}
use Rattle.checks.proofs.entries.constants_fit.Goals as goal

pub returns : goal.returns
unfolding constants_fit
returns c = all_of_range (constant_fits c.args.constants.now c.args.labels) c.args.n c.all.ensures.ran (λ x b q k. search (rules, tests))
