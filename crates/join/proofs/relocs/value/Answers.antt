-- `value` meets its contract.
use Rattle.std.proofs.Common.{rules}
use Rattle.join.proofs.relocs.value.Goals as goal

pub returns : goal.returns
returns c = search rules
