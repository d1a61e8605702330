-- `width_of` meets its contract: a form's length, by cases.
use mathlib.Core.Path.{refl}
use Rattle.fresh.specs.Forms.{width}
use Rattle.layout.proofs.width_of.Goals as goal

pub returns-then-long : goal.returns-then-long
unfolding width
returns-then-long c = rw (c.in-Jump.is, c.if-long.true) c.long_len.ensures

pub returns-else-long : goal.returns-else-long
unfolding width
returns-else-long c = rw (c.in-Jump.is, c.if-long.false) refl

pub returns-in-Align : goal.returns-in-Align
unfolding width
returns-in-Align c = rw c.in-Align.is c.padding_within.ensures

pub returns-then-long-2 : goal.returns-then-long-2
unfolding width
returns-then-long-2 c = rw (c.in-Far.is, c.if-long-2.true) refl

pub returns-else-long-2 : goal.returns-else-long-2
unfolding width
returns-else-long-2 c = rw (c.in-Far.is, c.if-long-2.false) refl
