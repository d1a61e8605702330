-- `lent_fits` meets its contract: each test of 1 in turn.
use Rattle.std.proofs.Common.{◌≡◌, true, sym, ◌∙◌, arith, ne_eqb, le-leb, rules}
use Rattle.seqs.proofs.Booleans.{test_fails, test_holds_lem}
use Rattle.join.specs.Pieces.{Lent, lent_of, piece_count, cursor_at, sums_fit, pieces_fit}
use Rattle.join.specs.Join.{Known, holds, known_in}
use borrow.Author.Tests.{tests}
use Rattle.seqs.proofs.Picking.{picks}
use Rattle.join.proofs.Cursors.{sums_summed, relocs_within}
use Rattle.join.proofs.why.lent_fits.Goals as goal

pub all_hold-requires-clause-relocations : goal.all_hold-requires-clause-relocations
all_hold-requires-clause-relocations c =
    let a = c.args in
    let l : Lent = lent_of a.pieces.now a.code.now a.labels.now a.relocs.now a.definitions.now in
    let n = piece_count l.pieces in
    let fit : pieces_fit l.pieces n ≡ true = sym c.pieces_fit.ensures ∙ c.if-not-pieces_fit.false in
    let near = rw c.sum.ensures.0 at c.sum.ensures.1 in
    let sums : sums_fit l (cursor_at l.pieces n) ≡ true =
    sym (rw c.sum.ensures.0 at (c.sums_fit.ensures a.pieces.now)) ∙ c.if-sums_fit.true in
    let summed = sums_summed l n sums in relocs_within l n (omega arith) fit near summed

pub returns-then-sums_fit : goal.returns-then-sums_fit
unfolding holds
returns-then-sums_fit c =
    let a = c.args in
    let l : Lent = lent_of a.pieces.now a.code.now a.labels.now a.relocs.now a.definitions.now in
    rw (ne_eqb _ _ c.if-n-eq0.false, le-leb _ _ c.if-n-gt-MOST_PIECES.false)
    (test_holds_lem c.pieces_fit.ensures (rw c.if-not-pieces_fit.false)
    (test_holds_lem (rw c.sum.ensures.0 at (c.sums_fit.ensures c.args.pieces.now)) (rw c.if-sums_fit.true)
    (c.all_hold.ensures Known (known_in l) (λ p r b called. search (rules, tests, picks)))))

pub returns-else-sums_fit : goal.returns-else-sums_fit
returns-else-sums_fit c =
    rw (ne_eqb _ _ c.if-n-eq0.false, le-leb _ _ c.if-n-gt-MOST_PIECES.false, c.if-sums_fit.false)
    (test_holds_lem c.pieces_fit.ensures (rw c.if-not-pieces_fit.false)
    (test_fails _ (rw c.sum.ensures.0 at (c.sums_fit.ensures c.args.pieces.now)) (rw c.if-sums_fit.false)))
