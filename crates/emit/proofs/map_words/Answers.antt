-- `map_words` meets its contract: after i turns the first i of the words are mapped.
use Rattle.std.proofs.Common.{◌≡◌, refl, arith}
use Rattle.emit.specs.steps.Emit.{mapped_words}
use Rattle.emit.proofs.Turns.{mapped_next, mapped_turn}
use Rattle.emit.proofs.map_words.Goals as goal

pub loop-i-init : goal.loop-i-init
unfolding mapped_words
loop-i-init c = refl

pub overflow_mul-k : goal.overflow_mul-k
overflow_mul-k c =
    omega (arith, c.requires.entry _ c.loop-i-test.true)

pub word_at-offset-requires : goal.word_at-offset-requires
word_at-offset-requires c =
    omega (arith, c.requires.entry _ c.loop-i-test.true)

pub map-requires : goal.map-requires
map-requires c =
    rw (c.word_at-offset.ensures, mapped_next (record { some = c.requires.some; mapped = c.loop-i.invariant })) (c.requires.recorded _ c.loop-i-test.true)

pub put_word-requires : goal.put_word-requires
put_word-requires c =
    omega (arith, c.requires.entry _ c.loop-i-test.true)

pub loop-i-preserved : goal.loop-i-preserved
loop-i-preserved c =
    mapped_turn (record { some = c.requires.some; mapped = c.loop-i.invariant }) c.word_at-offset.ensures c.map.ensures c.put_word.ensures

pub returns : goal.returns
returns c =
    let all : c.loop-i.i ≡ c.args.count = omega arith in rw all at c.loop-i.invariant
