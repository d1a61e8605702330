-- `in_reach` meets its contract: its tests are made in order.
use mathlib.Core.Path.{refl}
use borrow.Author.Tests.{le-leb, lt-leb}
use Rattle.layout.proofs.in_reach.Goals as goal

pub returns-then-end-label : goal.returns-then-end-label
returns-then-end-label c =
    rw (← c.reach_of-reach.ensures.0, ← c.reach_of-reach.ensures.1, le-leb _ _ c.if-end-label.true) refl

pub returns-else-end-label : goal.returns-else-end-label
returns-else-end-label c =
    rw (← c.reach_of-reach.ensures.0, lt-leb _ _ c.if-end-label.false) refl
