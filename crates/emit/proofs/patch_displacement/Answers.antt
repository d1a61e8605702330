-- `patch_displacement` meets its contract: the field is the jump's last bytes.
use Rattle.std.proofs.Common.{arith}
use Rattle.fresh.specs.Fill.{fill_field}
use Rattle.fresh.proofs.Forms.{long_len_range}
use Rattle.emit.proofs.patch_displacement.Goals as goal

pub overflow_sub-at : goal.overflow_sub-at
overflow_sub-at c =
    omega (arith, c.long_len.ensures, long_len_range c.args.jump.cc)

pub overflow_add-at : goal.overflow_add-at
overflow_add-at c =
    omega (arith, c.long_len.ensures, long_len_range c.args.jump.cc)

pub patch_field-requires : goal.patch_field-requires
patch_field-requires c =
    rw c.long_len.ensures (rw c.if-long.true at c.requires.output_within)

pub returns-then-long : goal.returns-then-long
unfolding fill_field
returns-then-long c =
    rw (c.if-long.true, ← c.long_len.ensures) c.patch_field.ensures

pub patch_field-requires-else-long : goal.patch_field-requires-else-long
patch_field-requires-else-long c =
    rw c.if-long.false at c.requires.output_within

pub returns-else-long : goal.returns-else-long
unfolding fill_field
returns-else-long c =
    rw c.if-long.false c.patch_field-else-long.ensures
