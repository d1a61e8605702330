-- Demand 2: what a finish that answers 0 leaves meets it.
use mathlib.Core.Path.{◌≡◌, sym, subst}
use mathlib.Core.List.{List}
use Prim.Native.Nat.{ℕ}
use Rattle.relax.specs.declared.Segment.{Segment}
use Rattle.recording.specs.Calls.{Recording}
use Rattle.recording.specs.View.{view}
use Rattle.fresh.specs.Pooled.{pooled}
use Rattle.fresh.specs.Rounds.{settled}
use Rattle.finish.specs.Finish.{finish}
use Rattle.demands.specs.Demand2.{Bytes, Relaxed, InPlace, PoolPadded, finished_code, Demand2}
use Rattle.demands.proofs.Relaxing.{assembled_means}
use Rattle.demands.proofs.Staying.{in_place_means, pool_padded}
use Rattle.demands.proofs.Answers.{finish_answered}
use Rattle.demands.proofs.Discharged.{keeps, fitting, reaching}

-- Every finished jump, branch, address field and padding byte that nothing written later covers means what its label demands.
pub demand2 : (r : Recording) (ss : List Segment) (output : List ℕ) → Bytes r.code → (finish r ss output).0.refusal ≡ 0
    → Demand2 r (finished_code r ss output)
demand2 r ss output bytes e =
    let p = pooled r.buffer.arch (view r) in
    let a = finish_answered r ss output e in
    let sound = a.fit.sound in
    let few = a.fit.few in
    record {
      jumped = λ jump.
          let done = a.jumped jump in
          subst (Relaxed p (settled p).choice) (sym done.is)
          (assembled_means p (settled p).choice (fitting r sound few (keeps r sound few jump) a.fit a.bound done));
      straight = λ none.
          let done = a.straight none in (
            subst (InPlace p) (sym done.is) (in_place_means p (reaching r sound few bytes a.fit done)),
            subst (PoolPadded r.buffer.arch (view r)) (sym done.is) (pool_padded r.buffer.arch (view r)),
          );
    }
