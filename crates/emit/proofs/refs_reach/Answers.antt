-- `refs_reach` meets its contract: `all` asks of each ref whether it reaches.
use Rattle.std.proofs.Common.{rules}
use borrow.Author.Tests.{tests}
use Rattle.seqs.proofs.Ranges.{all_of_range}
use Rattle.emit.specs.steps.Emit.{ref_reaches, refs_reach}
use Rattle.emit.proofs.refs_reach.Goals as goal

pub returns : goal.returns
unfolding refs_reach
returns c =
    let a = c.args in
    all_of_range (ref_reaches a.refs.now a.labels.now a.offsets.now.segments.now a.offsets.now.count) a.count c.all.ensures.ran (λ x b q k. search (rules, tests))
