-- `in_range` meets its contract, kind by kind.
use Rattle.std.proofs.Common.{rules}
use borrow.Author.Tests.{tests}
use Rattle.seqs.specs.Pick.{pick}
use Rattle.sheet_form.specs.Form.{in_range}
use Rattle.sheet_form.proofs.form.in_range.Goals as goal

pub returns-in-Bytes : goal.returns-in-Bytes
unfolding in_range pick
returns-in-Bytes c = search (rules, tests)

pub returns-in-Use : goal.returns-in-Use
unfolding in_range pick
returns-in-Use c = search (rules, tests)

pub returns-in-Relocation : goal.returns-in-Relocation
unfolding in_range pick
returns-in-Relocation c = search (rules, tests)

pub returns-in_default : goal.returns-in_default
unfolding in_range pick
returns-in_default c = search (rules, tests)
