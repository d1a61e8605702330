-- `uses_fit` meets its contract: `all` asks of each use whether it fits.
use Rattle.std.proofs.Common.{rules}
use borrow.Author.Tests.{tests}
use Rattle.seqs.proofs.Ranges.{all_of_range}
use Rattle.checks.specs.Entries.{use_fits, uses_fit}
use Rattle.checks.proofs.entries.uses_fit.Goals as goal

pub returns : goal.returns
unfolding uses_fit
returns c = all_of_range (use_fits c.args.uses.now c.args.arch c.args.labels) c.args.n c.all.ensures.ran (λ x b q k. search (rules, tests))
