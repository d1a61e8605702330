-- `events_fit` meets its contract: `all` asks of each event whether it fits.
use Rattle.std.proofs.Common.{rules}
use borrow.Author.Tests.{tests}
use Rattle.seqs.proofs.Ranges.{all_of_range}
use Rattle.checks.specs.Entries.{event_fits, events_fit}
use Rattle.checks.proofs.entries.events_fit.Goals as goal

pub returns-then-is_kept : goal.returns-then-is_kept
unfolding events_fit
returns-then-is_kept c = rw (← c.is_kept.ensures, c.if-is_kept.true) (all_of_range (event_fits c.args.events.now c.args.labels c.args.code) c.args.n c.all.ensures.ran (λ x b q k. search (rules, tests)))
