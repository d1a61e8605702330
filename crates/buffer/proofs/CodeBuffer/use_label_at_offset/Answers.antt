-- `use_label_at_offset` meets its contract: where it is not turned down, the table has room for the entry.
use Rattle.std.proofs.Common.{sym, arith}
use Rattle.buffer.proofs.Answered.{past, down}
use Rattle.buffer.specs.Calls.{use_label}
use Rattle.buffer.proofs.Accepted.{use_accepted}
use Rattle.buffer.proofs.CodeBuffer.use_label_at_offset.Goals as goal

pub returns-in-Err : goal.returns-in-Err
unfolding use_label
returns-in-Err c =
    rw (c.turn_down.ensures, c.in-Err.ensures) (sym (down _ _ c.in-Err.why c.in-Err.ensures))

pub put_use-requires : goal.put_use-requires
put_use-requires c =
    let f = use_accepted (sym c.in_default.ensures) in
    omega (arith, f.fits, f.few)

pub overflow_add-self : goal.overflow_add-self
overflow_add-self c =
    let f = use_accepted (sym c.in_default.ensures) in
    omega (arith, f.fits, f.few)

pub opened-requires : goal.opened-requires
opened-requires c =
    let f = use_accepted (sym c.in_default.ensures) in
    omega (arith, f.labels, f.known)

pub overflow_add-self-2 : goal.overflow_add-self-2
overflow_add-self-2 c =
    let f = use_accepted (sym c.in_default.ensures) in
    omega (arith, f.few_open, c.opened.ensures.1)

pub returns : goal.returns
unfolding use_label
returns c =
    rw (c.put_use.ensures, c.opened.ensures.0) (sym (past _ _ c.in_default.ensures))
