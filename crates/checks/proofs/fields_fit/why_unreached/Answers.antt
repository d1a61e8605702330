-- `why_unreached` meets its contract: 19 comes before the reach.
use mathlib.Core.Path.{sym}
use Rattle.checks.specs.steps.Fields.{why_unreached}
use Rattle.seqs.proofs.Picking.{yes_lt, no_lt}
use Rattle.checks.proofs.fields_fit.why_unreached.Goals as goal

pub returns-then-len-offset : goal.returns-then-len-offset
unfolding why_unreached
returns-then-len-offset c =
    rw (← c.word_at-offset.ensures, ← c.word_at-kind.ensures, ← c.size_of.ensures.0) (sym (yes_lt _ _ _ _ c.if-len-offset.true))

pub returns : goal.returns
unfolding why_unreached
returns c =
    rw (c.reach_of.ensures, ← c.word_at-offset.ensures, ← c.word_at-label.ensures, ← c.word_at-kind.ensures, ← c.word_at-target.ensures, ← c.size_of.ensures.0) (sym (no_lt _ _ _ _ c.if-len-offset.false))
