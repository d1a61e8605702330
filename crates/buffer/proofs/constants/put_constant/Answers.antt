-- `put_constant` meets its contract: two words, and the bytes copied into the part after them.
use Prim.Native.Nat.{◌+◌, ◌*◌}
use Rattle.buffer.proofs.Appends.{part_copied}
use native.Mathlib.Omega.{arith}
use Rattle.buffer.specs.Tables.{constant_size, constant_head}
use Rattle.buffer.proofs.constants.put_constant.Goals as goal

pub returns : goal.returns
returns c =
    rw (c.copy.ensures, ← c.put_word.ensures, ← c.put_word-2.ensures) (part_copied c.put_word-2.new.bytes c.args.bytes.now (c.args.i * constant_size + constant_head) (omega arith))
