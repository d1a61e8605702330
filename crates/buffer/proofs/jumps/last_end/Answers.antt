-- `last_end` meets its contract: the event is the one before the count.
use Rattle.buffer.specs.Refusals.{last_end}
use Rattle.seqs.proofs.Picking.{yes_eq, no_eq}
use mathlib.Core.Path.{sym}
use Rattle.buffer.proofs.jumps.last_end.Goals as goal

pub returns-then-n-eq0 : goal.returns-then-n-eq0
unfolding last_end
returns-then-n-eq0 c = sym (yes_eq _ 0 _ _ c.if-n-eq0.true)

pub returns : goal.returns
unfolding last_end
returns c =
    rw (c.event_end.ensures, c.event_at.ensures) (sym (no_eq _ 0 _ _ c.if-n-eq0.false))
