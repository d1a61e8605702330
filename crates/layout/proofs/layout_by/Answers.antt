-- `layout_by` meets its contract: a turn lays out one event more, and the pool's alignments follow.
use Rattle.std.proofs.Common.{◌≡◌, arith}
use Rattle.layout.proofs.Turns.{kept_none, kept_follows, kept_more, kept_low, kept_small}
use Rattle.layout.proofs.layout_by.Goals as goal

pub loop-i-init : goal.loop-i-init
loop-i-init g c = kept_none

pub next_segment-last-requires : goal.next_segment-last-requires
next_segment-last-requires g c =
    rw c.event_at-event.ensures (kept_follows c.requires.recorded (omega arith) c.loop-i.invariant c.loop-i-test.true)

pub loop-i-preserved : goal.loop-i-preserved
loop-i-preserved g c =
    let made = rw c.event_at-event.ensures at c.next_segment-last.ensures in
    let kept = rw c.segment_at.ensures at c.kept.ensures in
    rw c.put_segment.ensures (kept_more c.requires.recorded (omega arith) c.loop-i.invariant c.loop-i-test.true (omega arith) _ _ made kept)

pub overflow_sub-new : goal.overflow_sub-new
overflow_sub-new g c =
    let e : c.loop-i.i ≡ c.args.n = omega arith in
    kept_low c.requires.recorded (rw e at c.loop-i.invariant)

pub overflow_add-new : goal.overflow_add-new
overflow_add-new g c =
    let e : c.loop-i.i ≡ c.args.n = omega arith in
    omega (arith, kept_small c.requires.recorded (rw e at c.loop-i.invariant) (omega arith))

pub layout_pool-requires : goal.layout_pool-requires
layout_pool-requires g c =
    let e : c.loop-i.i ≡ c.args.n = omega arith in
    record { within = (omega arith, omega arith, omega (arith, c.requires.recorded.small), kept_small c.requires.recorded (rw e at c.loop-i.invariant) (omega arith)) }

pub returns : goal.returns
returns g c =
    let e : c.loop-i.i ≡ c.args.n = omega arith in
    let q = rw e at c.loop-i.invariant in
    record {
      rows = _;
      old = _;
      new = _;
      recorded = q;
      order = kept_low c.requires.recorded q;
      pooled = c.layout_pool.ensures.segments_after;
      length = c.layout_pool.ensures.value;
    }
