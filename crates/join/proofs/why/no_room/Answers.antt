-- `no_room` meets its contract: each part in its order.
use Rattle.std.proofs.Common.{rules}
use Rattle.refusals.proofs.Chains.{chains}
use Rattle.join.specs.Join.{why_no_room}
use Rattle.join.proofs.why.no_room.Goals as goal

pub returns-in_err-no_table : goal.returns-in_err-no_table
unfolding why_no_room
returns-in_err-no_table c = search (rules, chains)

pub returns-in_err-no_field : goal.returns-in_err-no_field
unfolding why_no_room
returns-in_err-no_field c = search (rules, chains)

pub returns : goal.returns
unfolding why_no_room
returns c = search (rules, chains)
