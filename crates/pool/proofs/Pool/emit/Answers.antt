-- `emit` meets its contract: after j turns what the first j constants take is written, and `at` is where constant j's alignment starts.
use mathlib.Core.Path.{refl, sym}
use native.Mathlib.Omega.{arith}
use Rattle.seqs.proofs.Overwrites.{over_nil, length_over}
use Rattle.pool.specs.steps.Pool.{pool_start, pool_bytes}
use Rattle.pool.proofs.Turns.{Turn, pad_small, start_turn, within_turn, emit_turn}
use Rattle.pool.proofs.Pool.emit.Goals as goal

pub loop-j-init : goal.loop-j-init
unfolding pool_start pool_bytes
loop-j-init c = (omega arith, refl, omega arith, refl, sym (over_nil _ _))

pub overflow_add-offset : goal.overflow_add-offset
overflow_add-offset c =
    let a = c.args in let turned : let l = c.loop-j in Turn a.from a.self.now.constants.now a.self.now.asked.now l.j l.at c.size_at-size.result c.constant_alignment.result c.padding_len.result = search in
    omega (arith, pad_small turned, c.args.self.now.fits.few)

pub overflow_add-end : goal.overflow_add-end
overflow_add-end c =
    let a = c.args in let turned : let l = c.loop-j in Turn a.from a.self.now.constants.now a.self.now.asked.now l.j l.at c.size_at-size.result c.constant_alignment.result c.padding_len.result = search in
    let turn = turned in
    omega (arith, pad_small turn, c.args.self.now.fits.few, c.args.self.now.fits.sized _ c.loop-j-test.true, turn.sized)

pub slice_bounds-pad-end : goal.slice_bounds-pad-end
slice_bounds-pad-end c =
    let a = c.args in let turned : let l = c.loop-j in Turn a.from a.self.now.constants.now a.self.now.asked.now l.j l.at c.size_at-size.result c.constant_alignment.result c.padding_len.result = search in
    omega (arith, within_turn turned c.loop-j-test.true, c.requires.output_within)

pub slice_bounds-fill-end : goal.slice_bounds-fill-end
slice_bounds-fill-end c =
    let a = c.args in let turned : let l = c.loop-j in Turn a.from a.self.now.constants.now a.self.now.asked.now l.j l.at c.size_at-size.result c.constant_alignment.result c.padding_len.result = search in
    omega (arith, within_turn turned c.loop-j-test.true, c.requires.output_within)

pub loop-j-preserved : goal.loop-j-preserved
loop-j-preserved c =
    let a = c.args in let turned : let l = c.loop-j in Turn a.from a.self.now.constants.now a.self.now.asked.now l.j l.at c.size_at-size.result c.constant_alignment.result c.padding_len.result = search in
    let a = c.args in
    let turn = turned in
    let inside = within_turn turn c.loop-j-test.true in
    let written = emit_turn a.output.now a.arch turn c.loop-j.invariant.4 (omega (arith, inside, c.requires.output_within)) c.pad.ensures (c.fill.ensures.after (λ y e. e)) in
    (omega arith, start_turn turn, omega (arith, pad_small turn, c.args.self.now.fits.sized _ c.loop-j-test.true, turn.sized), rw written (length_over _ _ _), written)
