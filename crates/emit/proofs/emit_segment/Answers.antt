-- `emit_segment` meets its contract: the event is written over what the run left.
use Rattle.std.proofs.Common.{length, refl, ap, ◌∙◌, arith}
use Rattle.seqs.proofs.Overwrites.{length_over}
use Rattle.relax.specs.Events.{event_at, start_of, extent_of}
use Rattle.fresh.specs.Fill.{part}
use Rattle.emit.proofs.emit_segment.Goals as goal

pub emit_event-requires : goal.emit_event-requires
emit_event-requires c =
    let p = c.requires in
    let kept = ap length c.copy_run.ensures ∙ length_over _ _ _ in
    rw c.event_at-event.ensures record { writes = p.within.1; within = (p.within_3.0, omega (arith, kept)) }

pub recorded_word-word-requires : goal.recorded_word-word-requires
recorded_word-word-requires c =
    rw c.event_at-event.ensures (c.requires.within.1, c.requires.within.2)

pub returns : goal.returns
returns c =
    let event = event_at c.args.events.now c.args.i in
    let keeps = rw c.event_at-event.ensures at c.recorded_word-word.ensures in
    let wrote = c.emit_event.ensures (part c.args.code.now (start_of event) (extent_of event)) (rw c.event_at-event.ensures keeps) in
    wrote ∙ rw (c.copy_run.ensures, c.event_at-event.ensures) refl
