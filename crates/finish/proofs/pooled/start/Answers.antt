-- `start` meets its contract: each return is one case of proofs/WithOrWithoutJump.
use mathlib.Core.Path.{refl, sym, ap}
use native.Mathlib.Omega.{arith}
use Rattle.refusals.proofs.Variants.{number_not_0}
use Rattle.finish.specs.Finish.{outcome_of}
use Rattle.finish.proofs.RelaxedRequires.{clearing}
use Rattle.finish.proofs.WithOrWithoutJump.{given, placed_unbound, started_refused, starts, placed_kept}
use Rattle.finish.proofs.pooled.start.Goals as goal

pub returns-then-not-all_bound-clause-output_after : goal.returns-then-not-all_bound-clause-output_after
returns-then-not-all_bound-clause-output_after c = λ placed e ss l.
    placed_unbound c.requires c.all_bound.ensures c.if-not-all_bound.true (sym (ap outcome_of (given e))) ss

pub invariant_of-pool : goal.invariant_of-pool
invariant_of-pool c =
    record { fits = c.requires.ready.pool }

pub why_not_laid-requires : goal.why_not_laid-requires
why_not_laid-requires c =
    let x = c.requires in
    clearing x.ready _ _ _ (omega (arith, x.entered.referred.room)) x.namers.events_few c.end-end.ensures.0

pub returns-in-Ok-clause-starts : goal.returns-in-Ok-clause-starts
returns-in-Ok-clause-starts c = λ e.
    starts c.requires c.all_bound.ensures c.if-not-all_bound.false c.moves.ensures c.if-moves.true c.in-Ok.ensures refl

pub returns-in-Err-clause-output_after : goal.returns-in-Err-clause-output_after
returns-in-Err-clause-output_after c = λ placed e ss l.
    started_refused c.requires c.all_bound.ensures c.if-not-all_bound.false c.moves.ensures c.if-moves.true c.in-Err.ensures (number_not_0 c.in-Err.why) (sym (ap outcome_of (given e))) ss l

pub returns-clause-output_after : goal.returns-clause-output_after
returns-clause-output_after c = λ placed e ss l.
    placed_kept c.requires c.all_bound.ensures c.if-not-all_bound.false c.moves.ensures c.if-moves.false (λ es rs. rw (given e) at (c.unrelaxed.ensures es rs)) ss
