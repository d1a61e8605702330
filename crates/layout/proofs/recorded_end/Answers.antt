-- `recorded_end` meets its contract.
use mathlib.Core.Path.{◌∙◌, ap}
use native.Mathlib.Omega.{arith}
use borrow.Author.Tests.{lt-ltb, le-ltb}
use Rattle.relax.specs.Events.{end_of}
use Rattle.layout.proofs.recorded_end.Goals as goal

pub event_at-requires : goal.event_at-requires
event_at-requires c =
    (c.requires.read c.if-i-n.true).0

pub overflow_cast-result : goal.overflow_cast-result
overflow_cast-result c =
    omega (arith, c.event_end.ensures ∙ ap end_of c.event_at.ensures, (c.requires.read c.if-i-n.true).1)

pub returns-then-i-n : goal.returns-then-i-n
returns-then-i-n c =
    rw (lt-ltb _ _ c.if-i-n.true) (c.event_end.ensures ∙ ap end_of c.event_at.ensures)

pub segment_at-requires : goal.segment_at-requires
segment_at-requires c =
    c.requires.room

pub returns-else-i-n : goal.returns-else-i-n
returns-else-i-n c =
    rw (le-ltb _ _ c.if-i-n.false, c.segment_at.ensures)
