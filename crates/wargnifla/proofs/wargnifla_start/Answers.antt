-- `wargnifla_start` meets its contract.
use Rattle.wargnifla.proofs.Crossing.{start_short, start_crosses}
use Rattle.wargnifla.proofs.wargnifla_start.Goals as goal

pub returns-then-counts-lt-COUNTS_SIZE : goal.returns-then-counts-lt-COUNTS_SIZE
returns-then-counts-lt-COUNTS_SIZE c =
    let a = c.args in
    start_short a.counts.now a.counts.now _ _ c.if-counts-lt-COUNTS_SIZE.true

pub returns : goal.returns
returns c =
    rw c.answer_of.ensures (start_crosses c.args.counts.now _ _ _ _ c.if-counts-lt-COUNTS_SIZE.false c.new-started.ensures c.put_counts.ensures)
