-- `label_of` meets its contract, by cases of the event.
use mathlib.Core.Path.{refl}
use Rattle.fresh.specs.Forms.{role_of}
use Rattle.layout.proofs.label_of.Goals as goal

pub returns-in-Jump : goal.returns-in-Jump
unfolding role_of
returns-in-Jump c = rw c.in-Jump.is refl

pub returns-in-Align : goal.returns-in-Align
unfolding role_of
returns-in-Align c = rw c.in-Align.is refl

pub returns-in-Far : goal.returns-in-Far
unfolding role_of
returns-in-Far c = rw c.in-Far.is refl
