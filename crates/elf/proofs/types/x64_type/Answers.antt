-- `x64_type` meets its contract: a kind that has no arm has no type.
use Rattle.std.proofs.Common.{rules}
use Rattle.elf.proofs.Untyped.{x64_untyped}
use Rattle.elf.proofs.types.x64_type.Goals as goal

pub returns-in_default : goal.returns-in_default
returns-in_default c = search (rules, x64_untyped)
