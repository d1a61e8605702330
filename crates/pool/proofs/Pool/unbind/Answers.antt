-- `unbind` meets its contract: after j turns the labels of the first j constants are unbound.
use mathlib.Core.Path.{refl, ◌∙◌}
use native.Mathlib.Omega.{arith}
use Rattle.words.proofs.Laws.{length_set_word}
use Rattle.pool.specs.steps.Pool.{pool_unbound}
use Rattle.pool.proofs.Turns.{unbound_turn}
use Rattle.pool.proofs.Pool.unbind.Goals as goal

pub loop-j-init : goal.loop-j-init
unfolding pool_unbound
loop-j-init c = (omega arith, refl, refl)

pub loop-j-preserved : goal.loop-j-preserved
loop-j-preserved c =
    (omega arith, rw c.put_word.ensures (length_set_word _ _ _ ∙ c.loop-j.invariant.1), c.put_word.ensures ∙ unbound_turn (record { unbound = c.loop-j.invariant.2; labelled = c.label_at-label.ensures }))
