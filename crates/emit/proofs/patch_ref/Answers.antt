-- `patch_ref` meets its contract: a kind's field is filled, any other code is passed over.
use Rattle.std.proofs.Common.{rules}
use Rattle.fresh.specs.Fill.{fill_field}
use Rattle.emit.proofs.patch_ref.Goals as goal

pub returns-in-Ok : goal.returns-in-Ok
unfolding fill_field
returns-in-Ok c = search rules

pub returns-in-Err : goal.returns-in-Err
unfolding fill_field
returns-in-Err c = search rules
