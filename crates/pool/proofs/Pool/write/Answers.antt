-- `write` meets its contract: after j turns the bytes of the first j constants are written.
use mathlib.Core.Path.{refl}
use native.Mathlib.Omega.{arith}
use Rattle.pool.specs.steps.Pool.{pool_written}
use Rattle.pool.proofs.Turns.{Writing, from_turn, room_turn, written_turn, length_pool_written}
use Rattle.pool.proofs.Pool.write.Goals as goal

pub loop-j-init : goal.loop-j-init
unfolding pool_written
loop-j-init c = (omega arith, refl, refl)

pub loop-j-preserved : goal.loop-j-preserved
loop-j-preserved c =
    let a = c.args in let turned : Writing a.labels.now a.self.now.constants.now a.self.now.asked.now c.loop-j.j c.size_at-size.result c.label_at-label.result c.word_at-offset.result c.word_at.result = search in
    let more = c.loop-j-test.true in
    let turn = turned in
    let room = room_turn turn c.requires.pool_room more in
    let written = written_turn turn c.args.output.now c.loop-j.invariant.2 (from_turn turn c.args.self.now.fits more) (omega arith) c.copy.ensures in
    (omega arith, rw written (length_pool_written _ _ _ _ _), written)
