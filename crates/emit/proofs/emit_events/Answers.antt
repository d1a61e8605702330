-- `emit_events` meets its contract: after i turns the first i events and the runs before them are written, and `old` and `new` are where the layout stands.
use Rattle.std.proofs.Common.{◌≡◌, sym, refl, arith}
use Rattle.seqs.proofs.Overwrites.{over_nil}
use Rattle.fresh.specs.steps.Runs.{after, runs_to}
use Rattle.emit.proofs.Runs.{segments_size, order, starts, begins, ends, inside, arrived, turn, last_old, last_room, finished, event_within}
use Rattle.emit.proofs.emit_events.Goals as goal

pub loop-i-init : goal.loop-i-init
unfolding after runs_to
loop-i-init c = (refl, sym (over_nil _ 0))

pub segment_at-segment-requires : goal.segment_at-segment-requires
segment_at-segment-requires c =
    omega (arith, segments_size c.requires)

pub bounds-long-i : goal.bounds-long-i
bounds-long-i c =
    omega (arith, c.requires.chosen)

pub emit_segment-requires : goal.emit_segment-requires
emit_segment-requires c =
    let p = c.requires in
    let begins = begins c.requires _ _ _ c.loop-i.invariant.0 c.loop-i-test.true _ c.segment_at-segment.ensures in
    let ends = ends c.requires _ _ _ c.loop-i.invariant.0 c.loop-i-test.true _ c.segment_at-segment.ensures in
    let inside = inside c.requires _ _ _ c.loop-i.invariant.0 c.loop-i-test.true _ c.segment_at-segment.ensures in
    let starts = starts c.requires _ _ _ c.loop-i.invariant.0 c.loop-i-test.true _ c.segment_at-segment.ensures in
    let kept = c.loop-i.auto.output in record {
      within = (omega (arith, p.recorded), p.writes _ c.loop-i-test.true, omega (arith, event_within c.requires _ c.loop-i-test.true, p.coded));
      within_2 = (
        order c.requires _ _ _ c.loop-i.invariant.0 c.loop-i-test.true _ c.segment_at-segment.ensures,
        omega (arith, starts, p.coded),
        omega (arith, begins, ends, inside, kept),
      );
      within_3 = (ends, omega (arith, inside, kept));
    }

pub loop-i-preserved : goal.loop-i-preserved
loop-i-preserved c =
    let l = c.loop-i in (
      arrived c.requires _ _ _ c.loop-i.invariant.0 c.loop-i-test.true _ c.segment_at-segment.ensures,
      turn c.requires _ _ _ c.loop-i.invariant.0 c.loop-i-test.true _ c.segment_at-segment.ensures _ _ _ l.invariant.1 refl c.emit_segment.ensures,
    )

pub copy_run-requires : goal.copy_run-requires
copy_run-requires c =
    let l = c.loop-i in
    let p = c.requires in
    let all : l.i ≡ c.args.n = omega arith in
    (last_old p _ _ _ l.invariant.0 all, p.coded, omega (arith, last_room p _ _ _ l.invariant.0 all, l.auto.output))

pub returns : goal.returns
returns c =
    let l = c.loop-i in
    let all : l.i ≡ c.args.n = omega arith in
    finished c.requires _ _ _ l.invariant.0 all _ _ l.invariant.1 c.copy_run.ensures
