-- `fill_field` meets its contract.
use Rattle.std.proofs.Common.{sym, ◌∙◌}
use Rattle.seqs.proofs.Picking.{pick_yes, pick_no}
use Rattle.join.proofs.write.fill_field.Goals as goal

pub returns-then-is_filled : goal.returns-then-is_filled
returns-then-is_filled c =
    c.put_field.ensures
    ∙ rw (c.value-value.ensures, c.known-known.ensures)
    (sym (pick_yes _ _ _ (sym c.is_filled.ensures ∙ c.if-is_filled.true)))

pub returns-else-is_filled : goal.returns-else-is_filled
returns-else-is_filled c =
    sym (pick_no _ _ _ (sym c.is_filled.ensures ∙ c.if-is_filled.false))
