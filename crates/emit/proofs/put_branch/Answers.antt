-- `put_branch` meets its contract: one word, or two.
use Rattle.std.proofs.Common.{◌≡◌, length, refl, ap, ◌∙◌, arith}
use Rattle.words.proofs.Laws.{length_set_word}
use Rattle.emit.proofs.Jumps.{one_word, two_words}
use Rattle.emit.proofs.put_branch.Goals as goal

pub put_word-requires : goal.put_word-requires
put_word-requires c =
    let long_room : length c.args.part.now ≡ 8 = c.requires ∙ rw c.if-long.true refl in
    omega (arith, long_room)

pub put_word-requires-then-long : goal.put_word-requires-then-long
put_word-requires-then-long c =
    let long_room : length c.args.part.now ≡ 8 = c.requires ∙ rw c.if-long.true refl in
    omega (arith, long_room, ap length c.put_word.ensures ∙ length_set_word _ _ _)

pub returns-then-long : goal.returns-then-long
returns-then-long c =
    let long_room : length c.args.part.now ≡ 8 = c.requires ∙ rw c.if-long.true refl in
    c.put_word-then-long.ensures
    ∙ rw (c.put_word.ensures, c.skipping.ensures, c.if-long.true)
    (two_words c.args.part.now _ _ long_room)

pub put_word-requires-else-long : goal.put_word-requires-else-long
put_word-requires-else-long c =
    let short_room : length c.args.part.now ≡ 4 = c.requires ∙ rw c.if-long.false refl in
    omega (arith, short_room)

pub returns-else-long : goal.returns-else-long
returns-else-long c =
    let short_room : length c.args.part.now ≡ 4 = c.requires ∙ rw c.if-long.false refl in
    c.put_word-else-long.ensures ∙ rw c.if-long.false (one_word c.args.part.now _ short_room)
