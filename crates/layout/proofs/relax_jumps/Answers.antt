-- `relax_jumps` meets its contract: a round that lengthens a jump leaves fewer short ones, and one that lengthens none is the last.
use mathlib.Core.Path.{refl, sym, ◌∙◌}
use native.Mathlib.Omega.{arith}
use Rattle.words.specs.Words.{word_at}
use Rattle.layout.proofs.Pooling.{length_all}
use Rattle.layout.proofs.Found.{shown_sorted, indexed_shown}
use Rattle.layout.proofs.Targets.{aiming_stays}
use Rattle.layout.proofs.Standing.{standing_none, layouts_few, shown_laid, relaxed_from, round_adds, round_less, round_more, round_done}
use Rattle.layout.proofs.relax_jumps.Goals as goal

pub layout-requires : goal.layout-requires
layout-requires c =
    let p = c.requires in
    record { recorded = p.recorded; within = (omega arith, omega arith, omega arith) }

pub index_segments-requires : goal.index_segments-requires
index_segments-requires c =
    let p = c.requires in
    let a = c.args in
    let shown = shown_laid a.events.now a.n a.code a.pool.now.constants.now a.pool.now.asked.now a.pool.now.count _ _ _ p.recorded a.pool.now.fits (omega arith) (omega arith) c.layout.ensures.segments_after in
    record { sorted = shown_sorted shown; within = (p.within.3, omega arith) }

pub find_targets-requires : goal.find_targets-requires
find_targets-requires c =
    let p = c.requires in
    let a = c.args in
    let shown = shown_laid a.events.now a.n a.code a.pool.now.constants.now a.pool.now.asked.now a.pool.now.count _ _ _ p.recorded a.pool.now.fits (omega arith) (omega arith) c.layout.ensures.segments_after in
    record { shown = (_, shown); indexed = c.index_segments.ensures; labelled = p.labelled; in_bound = omega arith }

pub loop-segments-init : goal.loop-segments-init
loop-segments-init c =
    let p = c.requires in
    let a = c.args in
    let size = length_all a.events.now a.n a.code a.pool.now.constants.now a.pool.now.asked.now a.pool.now.count in
    let shown = shown_laid a.events.now a.n a.code a.pool.now.constants.now a.pool.now.asked.now a.pool.now.count _ _ _ p.recorded a.pool.now.fits (omega arith) (omega arith) c.layout.ensures.segments_after in
    (omega (arith, c.layout.auto.segments, c.find_targets.auto.segments), refl, standing_none _ _ _ _ (p.within.2 ∙ sym size), c.find_targets.ensures.aiming _ shown)

pub place_ends-requires : goal.place_ends-requires
place_ends-requires c =
    let p = c.requires in
    let l = c.loop-segments in
    record { recorded = p.recorded; within = (omega arith, l.invariant.0, omega (arith, l.invariant.1)) }

pub overflow_add-layouts : goal.overflow_add-layouts
overflow_add-layouts c =
    let a = c.args in
    let size = length_all a.events.now a.n a.code a.pool.now.constants.now a.pool.now.asked.now a.pool.now.count in
    omega (arith, layouts_few c.loop-segments.invariant.2, size)

pub lengthen-requires : goal.lengthen-requires
lengthen-requires c =
    let p = c.requires in
    let a = c.args in
    let l = c.loop-segments in
    let placed = c.place_ends.ensures in record {
      within = (omega (arith, l.invariant.0, placed.rest.sized), omega (arith, l.invariant.1), p.recorded.room);
      adds = round_adds a.events.now a.n a.code a.pool.now.constants.now a.pool.now.asked.now a.pool.now.count (word_at a.labels.now) l.invariant.2 l.invariant.3 (omega arith) placed
          p.recorded a.pool.now.fits l.invariant.0;
    }

pub layout-len-requires : goal.layout-len-requires
layout-len-requires c =
    let p = c.requires in
    let l = c.loop-segments in
    record { recorded = p.recorded; within = (omega arith, omega (arith, l.invariant.0, c.place_ends.ensures.rest.sized), omega (arith, l.invariant.1, c.lengthen.auto.long)) }

pub loop-segments-smaller : goal.loop-segments-smaller
loop-segments-smaller c =
    let a = c.args in
    let l = c.loop-segments in
    let said = c.lengthen.ensures in
    let less =
    round_less a.events.now a.n a.code a.pool.now.constants.now a.pool.now.asked.now a.pool.now.count (word_at a.labels.now) l.invariant.2 l.invariant.3 (omega arith)
    c.place_ends.ensures said.long_after said.value (c.if-not-lengthen.false) in
    omega (arith, less)

pub loop-segments-preserved : goal.loop-segments-preserved
loop-segments-preserved c =
    let a = c.args in
    let l = c.loop-segments in
    let said = c.lengthen.ensures in
    let placed = c.place_ends.ensures in
    let next =
    round_more a.events.now a.n a.code a.pool.now.constants.now a.pool.now.asked.now a.pool.now.count (word_at a.labels.now) l.invariant.2 l.invariant.3 (omega arith)
    placed said.long_after said.value (c.if-not-lengthen.false) in
    (omega (arith, l.invariant.0, placed.rest.sized), c.lengthen.auto.long ∙ l.invariant.1, next, aiming_stays l.invariant.3 placed)

pub shape_of-segments : goal.shape_of-segments
shape_of-segments c =
    omega (arith, c.layout-len.auto.segments, c.place_ends.auto.segments, c.loop-segments.invariant.2.rest.sized, c.find_targets.auto.segments, c.layout.auto.segments)

pub returns : goal.returns
returns c =
    let a = c.args in
    let l = c.loop-segments in
    let said = c.lengthen.ensures in
    let made = c.layout-len.ensures in
    let p = c.requires in
    let few = p.within.0 in
    let room = p.within.1 in
    let shown = shown_laid a.events.now a.n a.code a.pool.now.constants.now a.pool.now.asked.now a.pool.now.count _ _ _ p.recorded a.pool.now.fits few room c.layout.ensures.segments_after in
    let shown-last = shown_laid a.events.now a.n a.code a.pool.now.constants.now a.pool.now.asked.now a.pool.now.count _ _ _ p.recorded a.pool.now.fits few (omega (arith, l.invariant.0, c.place_ends.ensures.rest.sized)) made.segments_after in record {
      relaxed = relaxed_from a.events.now a.n a.code a.pool.now.constants.now a.pool.now.asked.now a.pool.now.count (word_at a.labels.now) _ c.layout.ensures.segments_after c.find_targets.ensures.same_past
          (round_done a.events.now a.n a.code a.pool.now.constants.now a.pool.now.asked.now a.pool.now.count (word_at a.labels.now) l.invariant.2 l.invariant.3 few
          c.place_ends.ensures said.long_after said.value (c.if-not-lengthen.true) _ made.segments_after _ _ made.value);
      indexed = indexed_shown shown shown-last c.index_segments.ensures;
    }
