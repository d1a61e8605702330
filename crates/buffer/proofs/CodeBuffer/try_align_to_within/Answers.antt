-- `try_align_to_within` meets its contract: the tables, then the counts.
use Rattle.buffer.proofs.Aligning.{align_answered, aligned_fits, told_fits}
use Rattle.buffer.proofs.CodeBuffer.try_align_to_within.Goals as goal

pub aligned-requires : goal.aligned-requires
aligned-requires c =
    let a = c.args in
    told_fits a.self c.align_tables-spent.result (aligned_fits a.self a.code.now a.events.now a.multiple a.most _ _ c.align_tables-spent.ensures)

pub returns : goal.returns
returns c =
    let a = c.args in
    align_answered a.self a.code.now a.events.now a.multiple a.most _ _ c.align_tables-spent.ensures c.aligned.ensures
