-- `write_relaxed` meets its contract: the calls in their order.
use mathlib.Core.Path.{◌∙◌}
use native.Mathlib.Omega.{arith}
use Rattle.finish.proofs.FinishedCode.{written_in_order}
use Rattle.finish.proofs.pooled.write_relaxed.Goals as goal

pub emit_events-requires : goal.emit_events-requires
emit_events-requires c =
    c.requires.writing.emits

pub emit-requires : goal.emit-requires
emit-requires c =
    let w = c.requires.writing in
    let e = c.map-to.ensures ∙ w.ends in
    record { in_bound = omega (arith, w.near, e); output_within = rw e (omega (arith, w.pooled, c.emit_events.auto.output)) }

pub map-to-requires : goal.map-to-requires
map-to-requires c bound = omega (arith, c.requires.writing.small)

pub patch_refs-requires : goal.patch_refs-requires
patch_refs-requires c =
    let w = c.requires.writing in
    rw (c.emit.auto.output, c.emit_events.auto.output) (rw c.requires.counted w.filled)

pub patch_jumps-requires : goal.patch_jumps-requires
patch_jumps-requires c =
    let w = c.requires.writing in
    rw (c.patch_refs.auto.output, c.emit.auto.output, c.emit_events.auto.output) w.jumped

pub write-requires : goal.write-requires
write-requires c =
    let w = c.requires.writing in record {
      pool_labels = w.named;
      pool_room = record {
        within = λ j h.
            omega (
              arith,
              w.written.within j h,
              c.patch_jumps.auto.output,
              c.patch_refs.auto.output,
              c.emit.auto.output,
              c.emit_events.auto.output,
            );
      };
    }

pub returns : goal.returns
returns c =
    let a = c.args in
    written_in_order a.output.now a.code.now a.labels.now a.events.now a.refs.now a.pool.now.constants.now a.pool.now.asked.now a.long.now a.offsets.now.segments.now
    a.b.arch a.b.code a.b.events a.pool.now.count a.b.refs c.emit_events.ensures (c.map-to.ensures ∙ c.requires.writing.ends) c.emit.ensures
    (rw c.requires.counted at c.patch_refs.ensures) c.patch_jumps.ensures c.write.ensures
