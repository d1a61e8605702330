-- `settle_piece` meets its contract: the definitions passed are new, and noted.
use Rattle.std.proofs.Common.{◌≡◌, true, false, sym, refl, ◌∙◌, arith, length-set, eq-eqb, ne_eqb}
use Rattle.seqs.proofs.Booleans.{true_is_not_false}
use Rattle.seqs.proofs.Scans.{pass_none, pass_one, pass_fails, pass_all}
use Rattle.join.specs.Symbols.{new_in}
use Rattle.join.proofs.Tables.{begun_none, begun_next}
use Rattle.join.proofs.symbols.settle_piece.Goals as goal

pub loop-j-init : goal.loop-j-init
loop-j-init c =
    (pass_none _ _, begun_none _ _ c.requires.settled, refl)

pub returns-then-found-ne-UNDEFINED : goal.returns-then-found-ne-UNDEFINED
unfolding new_in
returns-then-found-ne-UNDEFINED c =
    let found = rw c.symbol_at-symbol.ensures at c.find_before-found.ensures in (
      pass_fails {t = false} c.loop-j.invariant.0 c.loop-j-test.true (sym (ne_eqb _ _ (λ e. c.if-found-ne-UNDEFINED.true (found ∙ e)))) refl,
      λ e. absurd (true_is_not_false (sym e)),
      c.loop-j.invariant.2,
    )

pub loop-j-preserved : goal.loop-j-preserved
loop-j-preserved c =
    let l = c.loop-j in
    let none = sym c.find_before-found.ensures ∙ c.if-found-ne-UNDEFINED.false in (
      pass_one {t = true} l.invariant.0 c.loop-j-test.true (sym (eq-eqb _ _ (rw c.symbol_at-symbol.ensures at none))) refl,
      rw c.note.ensures (begun_next l.invariant.1 c.symbol_at-symbol.ensures none c.defined-known.ensures),
      rw c.note.ensures (length-set l.table _ _ ∙ l.invariant.2),
    )

pub returns : goal.returns
unfolding new_in
returns c =
    let all : c.loop-j.j ≡ c.args.placed.piece.definitions = omega arith in
    (pass_all c.loop-j.invariant.0 (omega arith), λ e. rw all at c.loop-j.invariant.1, c.loop-j.invariant.2)
