-- `end` meets its contract: after j turns, `at` is where constant j's alignment starts.
use mathlib.Core.Path.{refl}
use native.Mathlib.Omega.{arith}
use Rattle.pool.specs.steps.Pool.{pool_start}
use Rattle.pool.proofs.Turns.{Turn, pad_small, start_turn}
use Rattle.pool.proofs.Pool.end.Goals as goal

-- what a turn has of its constant
turned : (c : goal.After-padding_len)
    → let a = c.args in
    let l = c.loop-j in
    Turn a.from a.self.now.constants.now a.self.now.asked.now l.j l.at c.size_at-size.result c.constant_alignment.result c.padding_len.result
turned c = search

pub loop-j-init : goal.loop-j-init
unfolding pool_start
loop-j-init c = (omega arith, refl, omega arith)

pub overflow_add-at : goal.overflow_add-at
overflow_add-at c =
    omega (arith, pad_small (turned c), c.args.self.now.fits.few)

pub overflow_add-at-in-loop-j : goal.overflow_add-at-in-loop-j
overflow_add-at-in-loop-j c =
    let turn = turned c in
    omega (arith, pad_small turn, c.args.self.now.fits.few, c.args.self.now.fits.sized _ c.loop-j-test.true, turn.sized)

pub loop-j-preserved : goal.loop-j-preserved
loop-j-preserved c =
    let turn = turned c in
    (omega arith, start_turn turn, omega (arith, pad_small turn, c.args.self.now.fits.sized _ c.loop-j-test.true, turn.sized))
