-- `begin` meets its contract: each return is one case of proofs/WholeFinish.
use mathlib.Core.Path.{refl, sym, ap}
use native.Mathlib.Omega.{arith}
use borrow.Author.Rules.{rules}
use Rattle.refusals.proofs.Variants.{number_not_0}
use Rattle.finish.specs.Finish.{finished_as}
use Rattle.finish.proofs.FitOrRefused.{passed_unfit, passed_pool, passed_labels, passed_code}
use Rattle.finish.proofs.WithOrWithoutJump.{given}
use Rattle.finish.proofs.WholeFinish.{placeable, finish_unfit, finish_concluded}
use Rattle.finish.proofs.begin.Goals as goal

pub returns-in-Err-clause-output_after : goal.returns-in-Err-clause-output_after
returns-in-Err-clause-output_after c = λ f e ss l.
    finish_unfit _ ss _ _ (finished_as f) (rw l c.in-Err.ensures) (number_not_0 c.in-Err.why) (sym (ap finished_as (given e)))

pub invariant_of-pool : goal.invariant_of-pool
invariant_of-pool c =
    record { fits = passed_pool _ _ _ (passed_unfit _ _ _ (sym c.in_default.ensures)) }

pub bind-requires : goal.bind-requires
bind-requires c =
    let pass = passed_unfit _ _ _ (sym c.in_default.ensures) in
    record { pool_labels = passed_labels _ _ _ pass; in_bound = omega (arith, passed_code _ _ _ pass) }

pub start-requires : goal.start-requires
start-requires c =
    rw c.bind.ensures (placeable _ _ _ (passed_unfit _ _ _ (sym c.in_default.ensures)))

pub returns-in_err-placed-clause-begins : goal.returns-in_err-placed-clause-begins
returns-in_err-placed-clause-begins c = λ none.
    let unfit = sym c.in_default.ensures in
    let pass = passed_unfit _ _ _ unfit in
    let starts = rw c.bind.ensures at (c.in_err-placed.ensures.starts refl) in
    rw c.bind.ensures
    (record {
      kept = starts.kept;
      relaxable = starts.relaxable;
      laid = starts.laid;
      concludes = λ ss l placed x is f back end. finish_concluded _ _ c.args.output.now pass (λ i. search rules) unfit ss l placed x (starts.placed ss (placed, x) is) f back end;
    })

pub conclude-requires : goal.conclude-requires
conclude-requires c =
    let pass = passed_unfit _ _ _ (sym c.in_default.ensures) in
    record { counted = refl; pool_labels = record { known = λ j h. omega (arith, (passed_labels _ _ _ pass).known j h, c.bind.auto.labels) } }

pub returns-clause-output_after : goal.returns-clause-output_after
returns-clause-output_after c = λ f e ss l.
    let unfit = sym c.in_default.ensures in
    let pass = passed_unfit _ _ _ unfit in
    let placed = rw c.bind.ensures at (c.in_ok-placed.ensures.output_after c.in_ok-placed.placed refl ss l) in
    let concluded = rw c.bind.ensures at c.conclude.ensures in
    rw (← given e) (finish_concluded _ _ c.args.output.now pass (λ i. search rules) unfit ss l _ _ placed _ _ concluded)
