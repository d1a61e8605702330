-- `find_targets` meets its contract: a turn writes one target more, and leaves what is searched.
use mathlib.Core.Path.{◌≡◌}
use native.Mathlib.Omega.{arith}
use Rattle.layout.proofs.Found.{indexed_shown}
use Rattle.layout.proofs.SamePast.{same_past_none, same_past_more, same_past_set}
use Rattle.layout.proofs.Targets.{targeted_none, targeted_more}
use Rattle.layout.proofs.find_targets.Goals as goal

pub loop-i-init : goal.loop-i-init
loop-i-init c = (λ es shown. targeted_none shown, same_past_none _ _)

pub target_of-target-requires : goal.target_of-target-requires
target_of-target-requires c =
    let p = c.requires in
    let more = c.loop-i-test.true in
    let shown = (c.loop-i.invariant.0 p.shown.0 p.shown.1).shown in
    record { shown = (p.shown.0, shown); indexed = indexed_shown p.shown.1 shown p.indexed; known = p.labelled.known _ more; in_range = more }

pub put_target-requires : goal.put_target-requires
put_target-requires c =
    let p = c.requires in
    omega (arith, (c.loop-i.invariant.0 p.shown.0 p.shown.1).shown.fits, c.loop-i-test.true, p.in_bound)

pub loop-i-preserved : goal.loop-i-preserved
loop-i-preserved c =
    let p = c.requires in
    let l = c.loop-i in
    let more = c.loop-i-test.true in (
      λ es shown.
          let now = l.invariant.0 es shown in
          rw c.put_target.ensures (targeted_more now more p.in_bound _ _ (c.target_of-target.ensures es now.shown)),
      rw c.put_target.ensures (same_past_more l.invariant.1 (same_past_set _ _ _ _ more) (omega arith)),
    )

pub returns : goal.returns
returns c =
    let l = c.loop-i in
    let e : l.i ≡ c.args.n = omega arith in
    record { aiming = λ es shown. record { aims = (rw e at (l.invariant.0 es shown)).aims }; same_past = l.invariant.1 }
