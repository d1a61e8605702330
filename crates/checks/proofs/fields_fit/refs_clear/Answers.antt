-- `refs_clear` meets its contract: `all` asks of each ref whether it is clear.
use Rattle.std.proofs.Common.{rules}
use borrow.Author.Tests.{tests}
use Rattle.seqs.proofs.Ranges.{all_of_range}
use Rattle.checks.specs.steps.Fields.{ref_clear, refs_clear}
use Rattle.checks.proofs.fields_fit.refs_clear.Goals as goal

pub returns : goal.returns
unfolding refs_clear
returns c =
    let a = c.args in
    all_of_range (ref_clear a.refs.now a.events.now a.n a.code a.pool.now.constants.now a.pool.now.asked.now a.pool.now.count) a.count c.all.ensures.ran (λ x b q k. search (rules, tests))
