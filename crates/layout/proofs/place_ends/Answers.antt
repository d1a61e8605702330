-- `place_ends` meets its contract: each row takes its event's new end alone.
use native.Mathlib.Omega.{arith}
use Rattle.std.proofs.Common.{rules}
use Rattle.recording.proofs.Views.{length_entries}
use Rattle.layout.proofs.Turns.{kept_ended}
use Rattle.layout.proofs.Ends.{placed}
use Rattle.layout.proofs.place_ends.Goals as goal

pub returns : goal.returns
returns c =
    let a = c.args in
    let made = c.layout_by.ensures in
    let ended = kept_ended made.recorded (length_entries _ _) (omega arith) (λ x s r k. search rules) in
    placed a.events.now a.n a.code a.pool.now.constants.now a.pool.now.asked.now a.pool.now.count a.long.now ended made.order (omega arith) made.pooled
