-- `patch_refs` meets its contract: after i turns the first i refs are filled.
use Rattle.std.proofs.Common.{◌≡◌, refl, arith}
use Rattle.emit.specs.steps.Emit.{refs_filled}
use Rattle.emit.proofs.Turns.{refs_turn}
use Rattle.emit.proofs.patch_refs.Goals as goal

pub loop-i-init : goal.loop-i-init
unfolding refs_filled
loop-i-init c = refl

pub word_at-requires : goal.word_at-requires
word_at-requires c =
    omega (arith, (c.requires.each _ c.loop-i-test.true).entry)

pub overflow_mul-i : goal.overflow_mul-i
overflow_mul-i c =
    omega (arith, (c.requires.each _ c.loop-i-test.true).entry)

pub map-at-requires : goal.map-at-requires
map-at-requires c =
    rw c.word_at.ensures (c.requires.recorded _ c.loop-i-test.true)

pub patch_ref-requires : goal.patch_ref-requires
patch_ref-requires c =
    rw (c.loop-i.auto.output, c.map-at.ensures, c.word_at.ensures) (c.requires.each _ c.loop-i-test.true)

pub loop-i-preserved : goal.loop-i-preserved
loop-i-preserved c =
    let filled = rw (c.map-at.ensures, c.word_at.ensures) at c.patch_ref.ensures in
    search (refs_turn, c.loop-i.invariant, filled)

pub returns : goal.returns
returns c =
    let all : c.loop-i.i ≡ c.args.count = omega arith in rw all at c.loop-i.invariant
