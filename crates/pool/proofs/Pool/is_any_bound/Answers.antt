-- `is_any_bound` meets its contract: `any` asks of each constant whether its label is bound.
use Rattle.std.proofs.Common.{ℕ, not, eqb, rules, ◌∙◌}
use borrow.Author.Tests.{tests}
use Rattle.seqs.proofs.Ranges.{any_of_range}
use Rattle.words.specs.Words.{word_at}
use Rattle.buffer.specs.State.{none}
use Rattle.pool.specs.steps.Pool.{label_at}
use Rattle.pool.proofs.Turns.{any_bound}
use Rattle.pool.proofs.Pool.is_any_bound.Goals as goal

pub returns : goal.returns
returns c =
    let a = c.args in
    let bound = λ (j : ℕ). not (eqb (word_at a.labels.now (label_at a.self.now.constants.now a.self.now.asked.now j)) none) in
    any_of_range bound a.self.now.count c.any.ensures.ran (λ x b q k. search (rules, tests))
    ∙ any_bound a.labels.now a.self.now.constants.now a.self.now.asked.now a.self.now.count
