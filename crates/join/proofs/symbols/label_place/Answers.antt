-- `label_place` meets its contract: the label is known, then bound.
use Rattle.std.proofs.Common.{sym, refl, le-ltb, lt-ltb, eq-eqb, ne_eqb}
use Rattle.seqs.proofs.Picking.{pick_no, pick_yes}
use Rattle.join.proofs.symbols.label_place.Goals as goal

pub returns-then-placed-label : goal.returns-then-placed-label
returns-then-placed-label c =
    sym (pick_no _ _ _ (rw (le-ltb c.args.label c.args.placed.piece.labels c.if-placed-label.true) refl))

pub returns-then-offset : goal.returns-then-offset
returns-then-offset c =
    sym (pick_no _ _ _ (rw (lt-ltb c.args.label c.args.placed.piece.labels c.if-placed-label.false, ← c.word_at-offset.ensures, eq-eqb _ _ c.if-offset.true) refl))

pub returns : goal.returns
returns c =
    rw (c.base.ensures.0, c.word_at-offset.ensures)
    (sym (pick_yes _ _ _ (rw (lt-ltb c.args.label c.args.placed.piece.labels c.if-placed-label.false, ← c.word_at-offset.ensures, ne_eqb _ _ c.if-offset.false) refl)))
