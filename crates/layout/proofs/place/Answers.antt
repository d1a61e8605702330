-- `place` meets its contract: its test is that of `image`.
use mathlib.Core.Path.{refl}
use borrow.Author.Tests.{lt-ltb, le-ltb}
use Rattle.fresh.specs.Segments.{image}
use Rattle.layout.proofs.place.Goals as goal

pub returns-then-offset-segment : goal.returns-then-offset-segment
unfolding image
returns-then-offset-segment c =
    let a = c.args in rw (lt-ltb a.offset a.segment.old_end c.if-offset-segment.true, image) refl

pub returns-else-offset-segment : goal.returns-else-offset-segment
unfolding image
returns-else-offset-segment c =
    let a = c.args in rw (le-ltb a.offset a.segment.old_end c.if-offset-segment.false, image) refl
