-- `wargnifla_write_relas` meets its contract.
use Rattle.wargnifla.proofs.Crossing.{relas_short, relas_cross}
use Rattle.wargnifla.proofs.wargnifla_write_relas.Goals as goal

pub returns-then-finalized-lt-RECORD_SIZE : goal.returns-then-finalized-lt-RECORD_SIZE
returns-then-finalized-lt-RECORD_SIZE c =
    let a = c.args in
    relas_short a.finalized.now a.labels.now a.relocs.now a.section a.output.now c.if-finalized-lt-RECORD_SIZE.true

pub returns : goal.returns
returns c =
    let a = c.args in
    rw c.answer_of.ensures (relas_cross a.finalized.now a.labels.now a.relocs.now a.section a.output.now _ _ c.if-finalized-lt-RECORD_SIZE.false
    c.record_at.ensures
    c.write_relas.ensures)
