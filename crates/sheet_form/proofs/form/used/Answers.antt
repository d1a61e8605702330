-- `used` meets its contract: the row of the kind, and what is counted.
use Rattle.std.proofs.Common.{rules}
use Rattle.seqs.specs.Pick.{pick}
use Rattle.sheet_form.specs.Form.{used}
use Rattle.sheet_form.proofs.form.used.Goals as goal

pub returns-in-NewLabel : goal.returns-in-NewLabel
unfolding used pick
returns-in-NewLabel c = search rules

pub returns-in-Bind : goal.returns-in-Bind
unfolding used pick
returns-in-Bind c = search rules

pub returns-in-Align : goal.returns-in-Align
unfolding used pick
returns-in-Align c = search rules

pub returns-in-Use : goal.returns-in-Use
unfolding used pick
returns-in-Use c = search rules

pub returns-in-Ref : goal.returns-in-Ref
unfolding used pick
returns-in-Ref c = search rules

pub returns-in-Bytes : goal.returns-in-Bytes
unfolding used pick
returns-in-Bytes c = search rules
