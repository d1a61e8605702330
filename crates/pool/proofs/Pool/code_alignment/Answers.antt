-- `code_alignment` meets its contract: after j turns, `alignment` is the greater of 32 and the largest of the first j.
use mathlib.Core.Path.{refl, ap, ◌∙◌}
use native.Mathlib.Numerals.{add-one}
use native.Mathlib.Omega.{arith}
use Rattle.fresh.specs.Pooled.{constant_alignment}
use Rattle.pool.specs.steps.Pool.{pool_alignment}
use Rattle.pool.proofs.Pool.code_alignment.Goals as goal

pub loop-j-init : goal.loop-j-init
unfolding pool_alignment
loop-j-init c = (omega arith, refl)

pub loop-j-preserved : goal.loop-j-preserved
unfolding pool_alignment
loop-j-preserved c =
    let l = c.loop-j in
    let own = c.constant_alignment.ensures ∙ ap constant_alignment c.size_at-size.ensures in
    (omega arith, rw (add-one l.j) (omega (arith, c.max-alignment.ensures, own, l.invariant.1)))
