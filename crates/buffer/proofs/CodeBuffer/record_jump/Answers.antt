-- `record_jump` meets its contract: where an X64 recording is not turned down, the table has room for the entry.
use Rattle.std.proofs.Common.{sym, ◌∙◌, arith}
use Rattle.buffer.proofs.Answered.{past, down}
use Rattle.seqs.proofs.Picking.{yes_eq, no_eq}
use Rattle.buffer.specs.Calls.{record_jump}
use Rattle.buffer.proofs.Accepted.{jump_accepted}
use Rattle.buffer.proofs.CodeBuffer.record_jump.Goals as goal

pub returns-in-Err : goal.returns-in-Err
unfolding record_jump
returns-in-Err c =
    rw (c.turn_down.ensures, c.in-Err.ensures) (sym (down _ _ c.in-Err.why c.in-Err.ensures))

pub put_event-requires : goal.put_event-requires
put_event-requires c =
    let f = jump_accepted (sym c.in_default.ensures) c.if-self-eq-X64.true in
    omega (arith, f.fits, f.few)

pub overflow_add-self : goal.overflow_add-self
overflow_add-self c =
    let f = jump_accepted (sym c.in_default.ensures) c.if-self-eq-X64.true in
    omega (arith, f.fits, f.few)

pub opened-requires : goal.opened-requires
opened-requires c =
    let f = jump_accepted (sym c.in_default.ensures) c.if-self-eq-X64.true in
    omega (arith, f.labels_fit_lem, f.known)

pub overflow_add-self-then-self-eq-X64 : goal.overflow_add-self-then-self-eq-X64
overflow_add-self-then-self-eq-X64 c =
    let f = jump_accepted (sym c.in_default.ensures) c.if-self-eq-X64.true in
    omega (arith, f.few_open, c.opened.ensures.1)

pub returns-then-self-eq-X64 : goal.returns-then-self-eq-X64
unfolding record_jump
returns-then-self-eq-X64 c =
    rw (c.put_event.ensures, c.opened.ensures.0) (sym (past _ _ c.in_default.ensures ∙ yes_eq _ 2 _ _ c.if-self-eq-X64.true))

pub returns-else-self-eq-X64 : goal.returns-else-self-eq-X64
unfolding record_jump
returns-else-self-eq-X64 c =
    sym (past _ _ c.in_default.ensures ∙ no_eq _ 2 _ _ c.if-self-eq-X64.false)
