-- `put_jump` meets its contract: the long form or the short.
use Rattle.emit.proofs.put_jump.Goals as goal

pub put_long-requires : goal.put_long-requires
put_long-requires c =
    record { encodes = c.requires.encodes; part_length = rw c.if-long.true at c.requires.part_length }

pub returns-then-long : goal.returns-then-long
returns-then-long c =
    rw c.if-long.true c.put_long.ensures

pub put_short-requires : goal.put_short-requires
put_short-requires c =
    record { encodes = c.requires.encodes; part_length = rw c.if-long.false at c.requires.part_length }

pub returns-else-long : goal.returns-else-long
returns-else-long c =
    rw c.if-long.false c.put_short.ensures
