-- `locate` meets its contract: the last event that starts at or before the label is passed, or holds it.
use native.Mathlib.Omega.{arith}
use Rattle.layout.proofs.Found.{finds_none, shown_sorted, ends_stand, locates, locates_before}
use Rattle.layout.proofs.locate.Goals as goal

pub returns-then-offset-eq-NONE : goal.returns-then-offset-eq-NONE
returns-then-offset-eq-NONE c es shown = finds_none es _ c.if-offset-eq-NONE.true

pub find-begun-requires : goal.find-begun-requires
find-begun-requires c =
    record { sorted = shown_sorted c.requires.shown.1; indexed = c.requires.indexed }

pub recorded_end_before-end-requires : goal.recorded_end_before-end-requires
recorded_end_before-end-requires c =
    ends_stand c.requires.shown.1 _ c.find-begun.ensures.within

pub returns-then-end-offset : goal.returns-then-end-offset
returns-then-end-offset c es shown =
    let unbound = c.if-offset-eq-NONE.false in
    locates shown unbound (c.requires.in_range unbound) _ c.find-begun.ensures _ c.recorded_end_before-end.ensures c.if-end-offset.true

pub recorded_end_before-requires : goal.recorded_end_before-requires
recorded_end_before-requires c =
    ends_stand c.requires.shown.1 _ (omega (arith, c.find-begun.ensures.within))

pub overflow_sub-result-3 : goal.overflow_sub-result-3
overflow_sub-result-3 c =
    let unbound = c.if-offset-eq-NONE.false in
    (locates_before c.requires.shown.1 unbound (c.requires.in_range unbound) _ c.find-begun.ensures _ c.recorded_end_before-end.ensures c.if-end-offset.false
    _ c.recorded_end_before.ensures).0

pub returns : goal.returns
returns c es shown =
    let unbound = c.if-offset-eq-NONE.false in
    (locates_before shown unbound (c.requires.in_range unbound) _ c.find-begun.ensures _ c.recorded_end_before-end.ensures c.if-end-offset.false
    _ c.recorded_end_before.ensures).1
