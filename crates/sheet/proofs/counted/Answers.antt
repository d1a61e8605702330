-- `counted` meets its contract.
use mathlib.Core.Path.{sym}
use Rattle.seqs.proofs.Picking.{pick_yes, pick_no}
use Rattle.sheet.proofs.counted.Goals as goal

pub returns-then-kept : goal.returns-then-kept
returns-then-kept c = sym (pick_yes _ _ _ c.if-kept.true)

pub returns : goal.returns
returns c =
    rw c.count_open-found.ensures (sym (pick_no _ _ _ c.if-kept.false))
