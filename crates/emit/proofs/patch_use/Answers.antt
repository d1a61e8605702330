-- `patch_use` meets its contract: a kind's field is patched, any other code is passed over.
use Rattle.std.proofs.Common.{arith, rules}
use Rattle.fresh.specs.Fill.{fill_use}
use Rattle.emit.proofs.patch_use.Goals as goal

pub word_at-at-requires : goal.word_at-at-requires
word_at-at-requires c =
    omega (arith, c.requires.entry, c.requires.known)

pub word_at-requires : goal.word_at-requires
word_at-requires c =
    omega (arith, c.requires.entry, c.requires.known)

pub returns-in-Ok : goal.returns-in-Ok
unfolding fill_use
returns-in-Ok c = search rules

pub returns-in-Err : goal.returns-in-Err
unfolding fill_use
returns-in-Err c = search rules
