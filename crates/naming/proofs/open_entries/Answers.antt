-- `open_entries` meets its contract: the test is that of `opens_at`.
use Rattle.std.proofs.Common.{ℕ, ◌+◌, ◌*◌, rules}
use borrow.Author.Tests.{tests}
use Rattle.words.specs.Words.{word_at}
use Rattle.naming.specs.steps.Open.{opens_at, open_entries}
use Rattle.naming.proofs.open_entries.Goals as goal

pub returns : goal.returns
unfolding open_entries
returns c =
    let a = c.args in
    c.how_many.ensures (λ (i : ℕ). opens_at a.labels.now a.known a.base (word_at a.table.now (i * a.stride + a.at))) (λ i b q. search (rules, tests))
