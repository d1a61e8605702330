-- `put_alignment` meets its contract: on X64 the event is written after the last, elsewhere nothing is.
use mathlib.Core.Path.{refl, sym, ◌∙◌}
use native.Mathlib.Omega.{arith}
use Rattle.seqs.proofs.Picking.{pick_yes, pick_no}
use Rattle.buffer.specs.Calls.{aligned_events}
use Rattle.buffer.proofs.CodeBuffer.put_alignment.Goals as goal

pub returns-then-not-keeps_events : goal.returns-then-not-keeps_events
unfolding aligned_events
returns-then-not-keeps_events c =
    rw (pick_no _ _ _ (sym c.keeps_events.ensures ∙ c.if-not-keeps_events.true)) refl

pub put_event-requires : goal.put_event-requires
put_event-requires c =
    omega (arith, c.requires (sym c.keeps_events.ensures ∙ c.if-not-keeps_events.false))

pub returns : goal.returns
unfolding aligned_events
returns c =
    rw (c.put_event.ensures, c.padding_within.ensures, pick_yes _ _ _ (sym c.keeps_events.ensures ∙ c.if-not-keeps_events.false)) refl
