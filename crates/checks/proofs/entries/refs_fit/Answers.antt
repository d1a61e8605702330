-- `refs_fit` meets its contract: `all` asks of each ref whether it fits.
use Rattle.std.proofs.Common.{rules}
use borrow.Author.Tests.{tests}
use Rattle.seqs.proofs.Ranges.{all_of_range}
use Rattle.checks.specs.Entries.{ref_fits, refs_fit}
use Rattle.checks.proofs.entries.refs_fit.Goals as goal

pub returns-then-is_kept : goal.returns-then-is_kept
unfolding refs_fit
returns-then-is_kept c = rw (← c.is_kept.ensures, c.if-is_kept.true) (all_of_range (ref_fits c.args.refs.now c.args.arch c.args.labels) c.args.n c.all.ensures.ran (λ x b q k. search (rules, tests)))
