-- `first_broken` meets its contract: what is left decides.
use mathlib.Core.Path.{sym, ◌∙◌}
use native.Mathlib.Omega.{arith}
use Rattle.sheet_form.proofs.Forming.{argument_part, broken_step, broken_here, broken_end}
use Rattle.sheet_form.proofs.form.first_broken.Goals as goal

pub loop-i-init : goal.loop-i-init
loop-i-init c = (omega arith, omega arith)

pub returns-then-not-is_formed : goal.returns-then-not-is_formed
returns-then-not-is_formed c =
    let a = c.args in
    omega (arith, c.loop-i.invariant.1, broken_here a.kinds.now a.arguments.now c.loop-i.i (omega arith) (sym (rw (argument_part a.kinds.now a.arguments.now c.loop-i.i) at c.is_formed.ensures) ∙ c.if-not-is_formed.true))

pub loop-i-preserved : goal.loop-i-preserved
loop-i-preserved c =
    let a = c.args in
    (omega arith, omega (arith, c.loop-i.invariant.1, broken_step a.kinds.now a.arguments.now c.loop-i.i (omega arith) (sym (rw (argument_part a.kinds.now a.arguments.now c.loop-i.i) at c.is_formed.ensures) ∙ c.if-not-is_formed.false)))

pub returns : goal.returns
returns c =
    let a = c.args in
    omega (arith, c.loop-i.invariant.1, broken_end a.kinds.now a.arguments.now c.loop-i.i (omega arith))
