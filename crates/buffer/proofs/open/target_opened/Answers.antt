-- `target_opened` meets its contract.
use native.Mathlib.Omega.{arith}
use mathlib.Core.Path.{◌∙◌, sym}
use Rattle.seqs.proofs.Picking.{yes_lt, no_lt}
use Rattle.buffer.proofs.open.target_opened.Goals as goal

pub returns-then-target-lt-LABEL_TARGET : goal.returns-then-target-lt-LABEL_TARGET
returns-then-target-lt-LABEL_TARGET c = (sym (yes_lt _ _ 0 _ c.if-target-lt-LABEL_TARGET.true), omega arith)

pub opened-requires : goal.opened-requires
opened-requires c =
    c.requires c.if-target-lt-LABEL_TARGET.false

pub returns : goal.returns
returns c =
    (c.opened.ensures.0 ∙ sym (no_lt _ _ 0 _ c.if-target-lt-LABEL_TARGET.false), c.opened.ensures.1)
