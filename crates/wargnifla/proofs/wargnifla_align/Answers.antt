-- `wargnifla_align` meets its contract.
use Rattle.std.proofs.Common.{rules, length, ◌<◌}
use Rattle.wargnifla.specs.Boundary.{counts_size}
use Rattle.wargnifla.proofs.Crossing.{align_short, align_crosses}
use Rattle.wargnifla.proofs.wargnifla_align.Goals as goal

pub returns-in_default : goal.returns-in_default
returns-in_default c =
    let a = c.args in
    let short : length c.args.counts.now < counts_size = search rules in
    align_short a.counts.now a.counts.now a.code.now a.code.now a.events.now a.events.now a.multiple a.most short

pub returns : goal.returns
returns c =
    let a = c.args in
    rw c.answer_of.ensures (align_crosses a.counts.now _ a.code.now _ a.events.now _ a.multiple a.most _ _ c.in-Some.ensures.0 c.in-Some.ensures.1 c.try_align_to_within-done.ensures c.put_counts.ensures)
