-- `is_known` meets its contract: the numbers below 2^31 are symbols.
use Rattle.buffer.specs.Refusals.{target_known}
use Rattle.seqs.proofs.Picking.{yes_lt, no_lt}
use mathlib.Core.Path.{sym}
use Rattle.buffer.proofs.CodeBuffer.is_known.Goals as goal

pub returns-then-target-lt-LABEL_TARGET : goal.returns-then-target-lt-LABEL_TARGET
unfolding target_known
returns-then-target-lt-LABEL_TARGET c =
    sym (yes_lt _ _ _ _ c.if-target-lt-LABEL_TARGET.true)

pub returns : goal.returns
unfolding target_known
returns c =
    sym (no_lt _ _ _ _ c.if-target-lt-LABEL_TARGET.false)
