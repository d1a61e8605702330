-- `ask_first` meets its contract: the constant stands in its table, and the tests leave room in the other two.
use Rattle.std.proofs.Common.{arith}
use Rattle.buffer.proofs.Accepted.{constant_label_accepted}
use Rattle.buffer.proofs.CodeBuffer.ask_first.Goals as goal

pub put_word-requires : goal.put_word-requires
put_word-requires c =
    omega (arith, constant_label_accepted c.requires)

pub overflow_add-self : goal.overflow_add-self
overflow_add-self c =
    omega (arith, constant_label_accepted c.requires)

pub overflow_add-self-2 : goal.overflow_add-self-2
overflow_add-self-2 c =
    omega (arith, constant_label_accepted c.requires)
