-- `short_opcode` meets its contract: the two cases of a condition.
use Rattle.std.proofs.Common.{refl, arith}
use Rattle.emit.proofs.Jumps.{on_encodes}
use Rattle.emit.proofs.short_opcode.Goals as goal

pub overflow_add-result : goal.overflow_add-result
overflow_add-result c =
    omega (arith, on_encodes _ _ c.in-On.is c.requires)

pub overflow_cast-result : goal.overflow_cast-result
overflow_cast-result c =
    omega (arith, on_encodes _ _ c.in-On.is c.requires)

pub returns-in-On : goal.returns-in-On
returns-in-On c =
    rw c.in-On.is refl
