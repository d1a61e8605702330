-- `record_label_ref` meets its contract: where a recording that keeps refs is not turned down, the table has room for the entry.
use Rattle.std.proofs.Common.{sym, ◌∙◌, arith}
use Rattle.seqs.proofs.Picking.{pick_yes, pick_no}
use Rattle.buffer.proofs.Answered.{past, down}
use Rattle.buffer.specs.Calls.{record_ref}
use Rattle.buffer.proofs.Accepted.{ref_accepted}
use Rattle.buffer.proofs.CodeBuffer.record_label_ref.Goals as goal

pub returns-in-Err : goal.returns-in-Err
unfolding record_ref
returns-in-Err c =
    rw (c.turn_down.ensures, c.in-Err.ensures) (sym (down _ _ c.in-Err.why c.in-Err.ensures))

pub put_ref-requires : goal.put_ref-requires
put_ref-requires c =
    let f = ref_accepted (sym c.in_default.ensures) (sym c.if-keeps_events.ensures) in
    omega (arith, f.fits, f.few)

pub overflow_add-self : goal.overflow_add-self
overflow_add-self c =
    let f = ref_accepted (sym c.in_default.ensures) (sym c.if-keeps_events.ensures) in
    omega (arith, f.fits, f.few)

pub opened-requires : goal.opened-requires
opened-requires c =
    let f = ref_accepted (sym c.in_default.ensures) (sym c.if-keeps_events.ensures) in
    omega (arith, f.labels, f.known)

pub overflow_add-self-then-keeps_events : goal.overflow_add-self-then-keeps_events
overflow_add-self-then-keeps_events c =
    let f = ref_accepted (sym c.in_default.ensures) (sym c.if-keeps_events.ensures) in
    omega (arith, f.few_open, c.opened.ensures.1)

pub returns-then-keeps_events : goal.returns-then-keeps_events
unfolding record_ref
returns-then-keeps_events c =
    rw (c.put_ref.ensures, c.opened.ensures.0) (sym (past _ _ c.in_default.ensures ∙ pick_yes _ _ _ (sym c.if-keeps_events.ensures)))

pub returns-else-keeps_events : goal.returns-else-keeps_events
unfolding record_ref
returns-else-keeps_events c =
    sym (past _ _ c.in_default.ensures ∙ pick_no _ _ _ (sym c.if-keeps_events.ensures))
