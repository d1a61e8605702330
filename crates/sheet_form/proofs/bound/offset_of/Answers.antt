-- `offset_of` meets its contract.
use Rattle.std.proofs.Common.{sym}
use Rattle.buffer.specs.State.{none}
use Rattle.buffer.proofs.Below.{under_yes, under_no}
use Rattle.sheet_form.proofs.bound.offset_of.Goals as goal

pub returns-then-label-lt-NONE : goal.returns-then-label-lt-NONE
returns-then-label-lt-NONE c = sym (under_yes c.args.label none c.if-label-lt-NONE.true)

pub returns-else-label-lt-NONE : goal.returns-else-label-lt-NONE
returns-else-label-lt-NONE c = sym (under_no c.args.label none c.if-label-lt-NONE.false)
