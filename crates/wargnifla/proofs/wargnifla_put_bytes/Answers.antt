-- `wargnifla_put_bytes` meets its contract.
use Rattle.std.proofs.Common.{rules, length, ◌<◌}
use Rattle.wargnifla.specs.Boundary.{counts_size}
use Rattle.wargnifla.proofs.Crossing.{bytes_short, bytes_cross}
use Rattle.wargnifla.proofs.wargnifla_put_bytes.Goals as goal

pub returns-in_default : goal.returns-in_default
returns-in_default c =
    let a = c.args in
    let short : length c.args.counts.now < counts_size = search rules in
    bytes_short a.counts.now a.counts.now a.code.now a.code.now a.bytes.now short

pub returns : goal.returns
returns c =
    let a = c.args in
    rw c.answer_of.ensures (bytes_cross a.counts.now _ a.code.now _ a.bytes.now _ _ c.in-Some.ensures.0 c.in-Some.ensures.1 c.put_bytes-done.ensures c.put_counts.ensures)
