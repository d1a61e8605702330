-- `add_reloc_at_offset` meets its contract: where it is not turned down, the table has room for the entry.
use Rattle.std.proofs.Common.{sym, arith}
use Rattle.buffer.proofs.Answered.{past, down}
use Rattle.buffer.specs.Calls.{add_reloc}
use Rattle.buffer.proofs.Accepted.{reloc_accepted, target_label}
use Rattle.buffer.proofs.CodeBuffer.add_reloc_at_offset.Goals as goal

pub returns-in-Err : goal.returns-in-Err
unfolding add_reloc
returns-in-Err c =
    rw (c.turn_down.ensures, c.in-Err.ensures) (sym (down _ _ c.in-Err.why c.in-Err.ensures))

pub put_reloc-requires : goal.put_reloc-requires
put_reloc-requires c =
    let f = reloc_accepted (sym c.in_default.ensures) in
    omega (arith, f.fits, f.few)

pub overflow_add-self : goal.overflow_add-self
overflow_add-self c =
    let f = reloc_accepted (sym c.in_default.ensures) in
    omega (arith, f.fits, f.few)

pub target_opened-requires : goal.target_opened-requires
target_opened-requires c =
    let f = reloc_accepted (sym c.in_default.ensures) in
    λ le. omega (arith, f.labels, target_label c.args.self c.args.target f.known le)

pub overflow_add-self-2 : goal.overflow_add-self-2
overflow_add-self-2 c =
    let f = reloc_accepted (sym c.in_default.ensures) in
    omega (arith, f.few_open, c.target_opened.ensures.1)

pub returns : goal.returns
unfolding add_reloc
returns c =
    rw (c.put_reloc.ensures, c.target_opened.ensures.0) (sym (past _ _ c.in_default.ensures))
