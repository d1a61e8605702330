-- `wargnifla_finish` meets its contract.
use Rattle.std.proofs.Common.{rules, length, ◌<◌, ◌≤◌, ◌≡◌}
use Rattle.wargnifla.specs.Boundary.{counts_size, counts_at}
use Rattle.wargnifla.proofs.Crossing.{finish_short, record_short, finish_answered}
use Rattle.wargnifla.proofs.wargnifla_finish.Goals as goal

pub returns-then-finalized-lt-RECORD_SIZE : goal.returns-then-finalized-lt-RECORD_SIZE
returns-then-finalized-lt-RECORD_SIZE c = search record_short

pub returns-in_default : goal.returns-in_default
returns-in_default c =
    let short : length c.args.counts.now < counts_size = search rules in
    rw c.report.ensures.answered (search (finish_short, c.if-finalized-lt-RECORD_SIZE.false, short, c.report.ensures.written))

pub returns : goal.returns
returns c =
    let known : (counts_size ≤ length c.args.counts.now) × (c.in-Some.b ≡ counts_at c.args.counts.now) = c.in-Some.ensures in
    rw c.report-2.ensures.answered (search (finish_answered, known.0, known.1, c.if-finalized-lt-RECORD_SIZE.false, c.finish-done.ensures, c.put_counts.ensures, c.report-2.ensures.written))
