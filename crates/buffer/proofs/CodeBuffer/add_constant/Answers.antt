-- `add_constant` meets its contract: where it is not turned down, the table has room for the entry, and the entry for the bytes.
use Rattle.std.proofs.Common.{sym, arith}
use Rattle.buffer.proofs.Answered.{past, down}
use Rattle.buffer.specs.Calls.{add_constant}
use Rattle.buffer.proofs.Accepted.{constant_accepted}
use Rattle.buffer.proofs.CodeBuffer.add_constant.Goals as goal

pub returns-in-Err : goal.returns-in-Err
unfolding add_constant
returns-in-Err c =
    rw (c.make_none.ensures, c.in-Err.ensures) (sym (down _ _ c.in-Err.why c.in-Err.ensures))

pub put_constant-requires : goal.put_constant-requires
put_constant-requires c =
    omega (arith, constant_accepted (sym c.in_default.ensures))

pub overflow_add-result : goal.overflow_add-result
overflow_add-result c =
    omega (arith, constant_accepted (sym c.in_default.ensures))

pub returns : goal.returns
unfolding add_constant
returns c =
    rw c.put_constant.ensures (sym (past _ _ c.in_default.ensures))
