-- `put_labels` meets its contract: the labels passed stand there, moved.
use Rattle.std.proofs.Common.{ℕ, ◌+◌, sym, arith}
use Rattle.seqs.proofs.Every.{all_at}
use Rattle.seqs.proofs.Overwrites.{over_nil}
use Rattle.words.specs.Words.{word_at}
use Rattle.join.specs.Pieces.{base_of}
use Rattle.join.specs.Join.{label_moves, labels_move}
use Rattle.join.proofs.Writing.{one_label_more}
use Rattle.join.proofs.labels.put_labels.Goals as goal

pub loop-j-init : goal.loop-j-init
loop-j-init c = (omega arith, sym (over_nil _ _))

pub moved-requires : goal.moved-requires
unfolding labels_move
moved-requires c =
    let a = c.args in
    rw (c.word_at.ensures, c.base-base.ensures.0)
    (all_at (λ (i : ℕ). label_moves (base_of a.placed.piece a.placed.cursor) (word_at a.labels.now (a.placed.cursor.labels + i))) a.placed.piece.labels c.loop-j.j c.requires.labels_move c.loop-j-test.true)

pub loop-j-preserved : goal.loop-j-preserved
loop-j-preserved c =
    let l = c.loop-j in
    (omega arith, rw (c.put_word.ensures, c.moved.ensures, c.word_at.ensures, l.invariant.1) (one_label_more _ _ _ l.j))
