-- `size_of` meets its contract, variant by variant.
use Rattle.std.proofs.Common.{rules}
use Rattle.checks.proofs.Reaching.{sized}
use Rattle.checks.proofs.fields_fit.size_of.Goals as goal

pub returns-in-Ok : goal.returns-in-Ok
returns-in-Ok c = sized _ _ (search rules)

pub returns-in-Err : goal.returns-in-Err
returns-in-Err c = sized _ _ (search rules)
