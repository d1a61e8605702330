-- `put_bytes` meets its contract: the bytes fit where no test refuses, and fill the part that they are copied into.
use Rattle.std.proofs.Common.{sym, arith}
use Rattle.buffer.proofs.Answered.{past, down}
use Rattle.buffer.specs.Calls.{put_bytes}
use Rattle.buffer.proofs.Accepted.{bytes_accepted}
use Rattle.buffer.proofs.Appends.{part_copied}
use Rattle.buffer.proofs.CodeBuffer.put_bytes.Goals as goal

pub returns-in-Err : goal.returns-in-Err
unfolding put_bytes
returns-in-Err c =
    rw (c.turn_down.ensures, c.in-Err.ensures) (sym (down _ _ c.in-Err.why c.in-Err.ensures))

pub slice_bounds-copy-end : goal.slice_bounds-copy-end
slice_bounds-copy-end c =
    omega (arith, bytes_accepted (sym c.in_default.ensures))

pub overflow_cast-self : goal.overflow_cast-self
overflow_cast-self c =
    omega (arith, bytes_accepted (sym c.in_default.ensures))

pub returns : goal.returns
unfolding put_bytes
returns c =
    let fits = bytes_accepted (sym c.in_default.ensures) in
    let copied = part_copied c.args.code.now c.args.bytes.now c.args.self.code (omega arith) in
    rw (c.copy.ensures, copied) (sym (past _ _ c.in_default.ensures))
