-- `bind` meets its contract: after j turns the labels of the first j constants are bound, and `at` is where constant j's alignment starts.
use mathlib.Core.Path.{refl, ◌∙◌}
use native.Mathlib.Omega.{arith}
use Rattle.words.proofs.Laws.{length_set_word}
use Rattle.pool.specs.steps.Pool.{pool_start, pool_bound}
use Rattle.pool.proofs.Turns.{Turn, pad_small, start_turn, bound_turn}
use Rattle.pool.proofs.Pool.bind.Goals as goal

pub loop-j-init : goal.loop-j-init
unfolding pool_start pool_bound
loop-j-init c = (omega arith, refl, omega arith, refl, refl)

pub overflow_add-offset : goal.overflow_add-offset
overflow_add-offset c =
    let a = c.args in let turned : let l = c.loop-j in Turn a.from a.self.now.constants.now a.self.now.asked.now l.j l.at c.size_at-size.result c.constant_alignment.result c.padding_len.result = search in
    omega (arith, pad_small turned, c.args.self.now.fits.few)

pub overflow_add-at : goal.overflow_add-at
overflow_add-at c =
    let a = c.args in let turned : let l = c.loop-j in Turn a.from a.self.now.constants.now a.self.now.asked.now l.j l.at c.size_at-size.result c.constant_alignment.result c.padding_len.result = search in
    let turn = turned in
    omega (arith, pad_small turn, c.args.self.now.fits.few, c.args.self.now.fits.sized _ c.loop-j-test.true, turn.sized)

pub loop-j-preserved : goal.loop-j-preserved
loop-j-preserved c =
    let a = c.args in let turned : let l = c.loop-j in Turn a.from a.self.now.constants.now a.self.now.asked.now l.j l.at c.size_at-size.result c.constant_alignment.result c.padding_len.result = search in
    let turn = turned in
    (omega arith, start_turn turn, omega (arith, pad_small turn, c.args.self.now.fits.sized _ c.loop-j-test.true, turn.sized), rw c.put_word.ensures (length_set_word _ _ _ ∙ c.loop-j.invariant.3), c.put_word.ensures ∙ bound_turn turn c.args.labels.now c.loop-j.invariant.4 c.label_at-label.ensures)
