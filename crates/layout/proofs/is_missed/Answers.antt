-- `is_missed` meets its contract: its tests are made in order.
use mathlib.Core.Path.{refl}
use mathlib.Core.Logic.{◌≢◌}
use Rattle.buffer.specs.State.{none}
use Rattle.layout.proofs.Missed.{missed_none, missed_reach}
use Rattle.layout.proofs.is_missed.Goals as goal

pub returns-then-row : goal.returns-then-row
returns-then-row c =
    let row = c.segment_at-row.result in
    let is = c.segment_at-row.ensures in
    let some : row.new_start ≢ none = c.if-row.true in
    rw (← is, ← c.event_at.ensures) (missed_reach _ _ row _ _ some c.in_reach.ensures (rw c.end_before.ensures refl))

pub returns-else-row : goal.returns-else-row
returns-else-row c =
    rw (c.if-row.false, ← c.segment_at-row.ensures) (missed_none _ _ c.segment_at-row.result c.if-row.false)
