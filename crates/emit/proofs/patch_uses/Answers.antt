-- `patch_uses` meets its contract: after i turns the first i uses are patched.
use Rattle.std.proofs.Common.{◌≡◌, refl, arith}
use Rattle.emit.specs.steps.Emit.{uses_filled}
use Rattle.emit.proofs.Turns.{uses_turn}
use Rattle.emit.proofs.patch_uses.Goals as goal

pub loop-i-init : goal.loop-i-init
unfolding uses_filled
loop-i-init c = refl

pub patch_use-requires : goal.patch_use-requires
patch_use-requires c =
    rw c.loop-i.auto.output (c.requires.each _ c.loop-i-test.true)

pub loop-i-preserved : goal.loop-i-preserved
loop-i-preserved c =
    search (uses_turn, c.loop-i.invariant, c.patch_use.ensures)

pub returns : goal.returns
returns c =
    let all : c.loop-i.i ≡ c.args.count = omega arith in rw all at c.loop-i.invariant
