-- `join_by` meets its contract: the table is clear; a refusal, or the whole.
use Rattle.std.proofs.Common.{◌≡◌, Err, length, sym, refl, rules}
use Rattle.refusals.proofs.Variants.{number_not_0}
use Rattle.join.specs.Pieces.{Lent, lent_of}
use Rattle.join.proofs.Answers.{join_refused, join_done, whole_put}
use Rattle.join.proofs.Fits.{joined_passed, fit_symbols, fit_joins, fit_whole}
use Rattle.join.proofs.Tables.{settled_clear}
use Rattle.join.proofs.join_by.Goals as goal

pub not_joined-requires : goal.not_joined-requires
not_joined-requires g c = settled_clear _ _ _ _

pub returns-in_err-not_joined : goal.returns-in_err-not_joined
returns-in_err-not_joined g c =
    let a = c.args in
    let l : Lent = lent_of a.pieces.now a.code.now a.labels.now a.relocs.now a.definitions.now in
    let told : c.from_residual.result ≡ Err c.in_err-not_joined.field-0.0 = search rules in
    rw told (join_refused l a.output.now a.joined_labels.now a.joined_relocs.now _ _ c.in_err-not_joined.ensures.0 (number_not_0 _) refl)

-- nothing refuses the joining
pub invariant_of-resolver : goal.invariant_of-resolver
invariant_of-resolver g c =
    let a = c.args in
    let l : Lent = lent_of a.pieces.now a.code.now a.labels.now a.relocs.now a.definitions.now in
    let passed = joined_passed l (length a.output.now) (length a.joined_labels.now) (length a.joined_relocs.now) (sym c.in_ok-not_joined.ensures.0) in
    record { resolves = record { symbols = fit_symbols l passed.0; settled = c.in_ok-not_joined.ensures.1 refl } }

pub put_pieces-requires : goal.put_pieces-requires
put_pieces-requires g c =
    let a = c.args in
    let l : Lent = lent_of a.pieces.now a.code.now a.labels.now a.relocs.now a.definitions.now in
    let passed = joined_passed l (length a.output.now) (length a.joined_labels.now) (length a.joined_relocs.now) (sym c.in_ok-not_joined.ensures.0) in
    record { joins = fit_joins l _ _ _ passed.0 passed.1 }

pub whole-requires : goal.whole-requires
whole-requires g c =
    let a = c.args in
    let l : Lent = lent_of a.pieces.now a.code.now a.labels.now a.relocs.now a.definitions.now in
    let passed = joined_passed l (length a.output.now) (length a.joined_labels.now) (length a.joined_relocs.now) (sym c.in_ok-not_joined.ensures.0) in
    fit_whole l _ _ _ passed.0 passed.1

pub returns : goal.returns
returns g c =
    let put = c.put_pieces.ensures in
    let a = c.args in
    let l : Lent = lent_of a.pieces.now a.code.now a.labels.now a.relocs.now a.definitions.now in
    join_done l a.output.now a.joined_labels.now a.joined_relocs.now _ _ _ c.in_ok-not_joined.ensures.0 refl
    (whole_put l a.output.now a.joined_labels.now a.joined_relocs.now _ _ _ _ c.whole.ensures put.output_after put.joined_labels_after put.joined_relocs_after)
