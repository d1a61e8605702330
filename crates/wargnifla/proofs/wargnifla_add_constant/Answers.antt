-- `wargnifla_add_constant` meets its contract.
use Rattle.std.proofs.Common.{rules, length, ◌<◌}
use Rattle.wargnifla.specs.Boundary.{counts_size}
use Rattle.wargnifla.proofs.Crossing.{constant_short, constant_crosses}
use Rattle.wargnifla.proofs.wargnifla_add_constant.Goals as goal
use Rattle.refusals.proofs.Chains.{chains}

pub returns-in_default : goal.returns-in_default
returns-in_default c =
    let a = c.args in
    let short : length c.args.counts.now < counts_size = search rules in
    constant_short a.counts.now a.counts.now a.constants.now a.constants.now a.bytes.now short

pub returns-in-Ok : goal.returns-in-Ok
returns-in-Ok c =
    let a = c.args in
    let crossed = constant_crosses a.counts.now _ a.constants.now _ a.bytes.now _ _ c.in-Some.ensures.0 c.in-Some.ensures.1 c.add_constant-made.ensures c.put_counts.ensures in
    rw c.in-Ok.is at crossed

pub returns-in-Err : goal.returns-in-Err
returns-in-Err c =
    let a = c.args in
    let crossed = constant_crosses a.counts.now _ a.constants.now _ a.bytes.now _ _ c.in-Some.ensures.0 c.in-Some.ensures.1 c.add_constant-made.ensures c.put_counts.ensures in
    rw c.number.ensures (rw c.in-Err.is at crossed)
