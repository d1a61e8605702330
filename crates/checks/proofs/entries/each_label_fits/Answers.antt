-- `each_label_fits` meets its contract: `all` asks of each label whether it fits.
use Rattle.std.proofs.Common.{rules, ℕ}
use borrow.Author.Tests.{tests}
use Rattle.seqs.proofs.Ranges.{all_of_range}
use Rattle.words.specs.Words.{word_at}
use Rattle.checks.specs.Entries.{label_fits, labels_fit}
use Rattle.checks.proofs.entries.each_label_fits.Goals as goal

pub returns : goal.returns
unfolding labels_fit
returns c = all_of_range (λ (i : ℕ). label_fits c.args.events.now c.args.m c.args.code (word_at c.args.labels.now i)) c.args.n c.all.ensures.ran (λ x b q k. search (rules, tests))
