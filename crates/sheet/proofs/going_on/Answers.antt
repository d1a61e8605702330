-- `going_on` meets its contract.
use mathlib.Core.Path.{sym}
use Rattle.seqs.proofs.Picking.{pick_yes, pick_no}
use Rattle.sheet.proofs.going_on.Goals as goal

pub returns-then-kept : goal.returns-then-kept
returns-then-kept c = sym (pick_yes _ _ _ c.if-kept.true)

pub returns : goal.returns
returns c =
    sym (pick_no _ _ _ c.if-kept.false)
