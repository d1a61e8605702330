-- `greatest_of` meets its contract: the greatest offset among the labels passed.
use mathlib.Core.Path.{◌≡◌, refl, ◌∙◌}
use native.Mathlib.Omega.{arith}
use Rattle.buffer.specs.State.{none}
use Rattle.buffer.specs.steps.Below.{greatest_below}
use Rattle.buffer.proofs.Below.{below_step}
use Rattle.sheet_form.proofs.bound.greatest_of.Goals as goal

pub loop-i-init : goal.loop-i-init
unfolding greatest_below
loop-i-init c = (omega arith, refl)

pub loop-i-preserved : goal.loop-i-preserved
loop-i-preserved c = (
  omega arith,
  (rw (c.offset_of.ensures, c.word_at.ensures, c.loop-i.invariant.1) at c.max-most.ensures)
      ∙ below_step c.args.labels.now c.loop-i.i none,
)

pub returns : goal.returns
returns c =
    let all : c.loop-i.i ≡ c.args.n = omega arith in rw all at c.loop-i.invariant.1
