-- `wargnifla_join` meets its contract.
use Rattle.wargnifla.proofs.Crossing.{join_short, join_crosses}
use Rattle.wargnifla.proofs.wargnifla_join.Goals as goal

pub returns-then-finalized-lt-RECORD_SIZE : goal.returns-then-finalized-lt-RECORD_SIZE
returns-then-finalized-lt-RECORD_SIZE c = search join_short

pub returns : goal.returns
returns c =
    rw c.report.ensures.answered (join_crosses _ _ _ _ _ _ _ _ c.if-finalized-lt-RECORD_SIZE.false c.join-answer.ensures c.report.ensures.written)
