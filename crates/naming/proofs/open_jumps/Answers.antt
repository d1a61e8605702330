-- `open_jumps` meets its contract: a jump or a branch, to an open label.
use Rattle.std.proofs.Common.{ℕ, ◌+◌, ◌*◌, ◌&&◌, rules}
use borrow.Author.Tests.{tests}
use Rattle.words.specs.Words.{word_at}
use Rattle.relax.specs.Events.{event_words, names_label}
use Rattle.naming.specs.steps.Open.{is_open_at, open_jumps}
use Rattle.naming.proofs.open_jumps.Goals as goal

pub returns : goal.returns
unfolding open_jumps
returns c =
    let events = c.args.events.now in
    c.how_many.ensures (λ (i : ℕ). names_label (word_at events (i * event_words)) && is_open_at c.args.labels.now c.args.known (word_at events (i * event_words + 3)))
    (λ i b q. search (rules, tests))
