-- `why_unfit` meets its contract: each return is one answer of proofs/FitOrRefused.
use Rattle.std.proofs.Common.{rules, arith}
use Rattle.refusals.proofs.Chains.{chains}
use Rattle.finish.specs.Refusals.{why_unfit}
use Rattle.finish.proofs.FitOrRefused.{stood_counts, stood_namers, stood_pool, stood_labels, stood_code, unfit_entries, unfit_open, unfit_bound, unfit_long, unfit_none}
use Rattle.finish.proofs.why_unfit.Goals as goal

pub returns-in_err-why_not_standing : goal.returns-in_err-why_not_standing
unfolding why_unfit
returns-in_err-why_not_standing c = search (rules, chains)

pub entries_fit-requires : goal.entries_fit-requires
entries_fit-requires c = stood_counts _ _ _ c.in_ok-why_not_standing.ensures

pub returns-then-not-entries_fit : goal.returns-then-not-entries_fit
returns-then-not-entries_fit c =
    unfit_entries _ _ _ c.in_ok-why_not_standing.ensures c.entries_fit.ensures c.if-not-entries_fit.true

pub count_open-requires : goal.count_open-requires
count_open-requires c =
    let stood = c.in_ok-why_not_standing.ensures in
    record { namers_fit = stood_namers _ _ _ stood; labels_within = (stood_counts _ _ _ stood).labels_room }

pub returns-then-count_open-b : goal.returns-then-count_open-b
returns-then-count_open-b c =
    unfit_open _ _ _ c.in_ok-why_not_standing.ensures c.entries_fit.ensures c.if-not-entries_fit.false c.count_open.ensures c.if-count_open-b.true

pub invariant_of-pool : goal.invariant_of-pool
invariant_of-pool c =
    record { fits = stood_pool _ _ _ c.in_ok-why_not_standing.ensures c.entries_fit.ensures c.if-not-entries_fit.false }

pub is_any_bound-requires : goal.is_any_bound-requires
is_any_bound-requires c =
    record { pool_labels = stood_labels _ _ _ c.in_ok-why_not_standing.ensures c.entries_fit.ensures c.if-not-entries_fit.false }

pub returns-then-is_any_bound : goal.returns-then-is_any_bound
returns-then-is_any_bound c =
    unfit_bound _ _ _ c.in_ok-why_not_standing.ensures c.entries_fit.ensures c.if-not-entries_fit.false c.count_open.ensures c.if-count_open-b.false
    c.is_any_bound.ensures c.if-is_any_bound.true

pub end-requires : goal.end-requires
end-requires c =
    record { in_bound = omega (arith, stood_code _ _ _ c.in_ok-why_not_standing.ensures c.entries_fit.ensures c.if-not-entries_fit.false) }

pub returns-then-end-gt-MOST_CODE : goal.returns-then-end-gt-MOST_CODE
returns-then-end-gt-MOST_CODE c =
    unfit_long _ _ _ c.in_ok-why_not_standing.ensures c.entries_fit.ensures c.if-not-entries_fit.false c.count_open.ensures c.if-count_open-b.false
    c.is_any_bound.ensures c.if-is_any_bound.false c.end.ensures.0 c.if-end-gt-MOST_CODE.true

pub returns : goal.returns
returns c =
    unfit_none _ _ _ c.in_ok-why_not_standing.ensures c.entries_fit.ensures c.if-not-entries_fit.false c.count_open.ensures c.if-count_open-b.false
    c.is_any_bound.ensures c.if-is_any_bound.false c.end.ensures.0 c.if-end-gt-MOST_CODE.false
