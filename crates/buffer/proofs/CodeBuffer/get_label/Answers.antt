-- `get_label` meets its contract: where it is not turned down, the table has room for the label.
use Rattle.std.proofs.Common.{sym, arith}
use Rattle.buffer.proofs.Answered.{past, down}
use Rattle.buffer.specs.Calls.{get_label}
use Rattle.buffer.proofs.Accepted.{label_accepted}
use Rattle.buffer.proofs.CodeBuffer.get_label.Goals as goal

pub returns-in-Err : goal.returns-in-Err
unfolding get_label
returns-in-Err c =
    rw (c.make_none.ensures, c.in-Err.ensures) (sym (down _ _ c.in-Err.why c.in-Err.ensures))

pub put_word-requires : goal.put_word-requires
put_word-requires c =
    omega (arith, label_accepted (sym c.in_default.ensures))

pub overflow_add-self : goal.overflow_add-self
overflow_add-self c =
    omega (arith, label_accepted (sym c.in_default.ensures))

pub returns : goal.returns
unfolding get_label
returns c =
    rw c.put_word.ensures (sym (past _ _ c.in_default.ensures))
