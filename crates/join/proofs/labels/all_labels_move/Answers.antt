-- `all_labels_move` meets its contract: all the labels of the pieces passed move.
use Rattle.std.proofs.Common.{sym, arith}
use Rattle.seqs.proofs.Scans.{pass_none, pass_one, pass_fails, pass_all}
use Rattle.join.proofs.Cursors.{cursor_none}
use Rattle.join.specs.Join.{all_labels_move}
use Rattle.join.proofs.Turns.{next_cursor}
use Rattle.join.proofs.labels.all_labels_move.Goals as goal

pub loop-k-init : goal.loop-k-init
loop-k-init c = (pass_none _ _, sym (cursor_none _))

pub returns-then-not-labels_move : goal.returns-then-not-labels_move
unfolding all_labels_move
returns-then-not-labels_move c =
    pass_fails c.loop-k.invariant.0 c.loop-k-test.true
    (rw (c.piece_at-piece.ensures, c.loop-k.invariant.1) at c.labels_move.ensures)
    (rw c.if-not-labels_move.true)

pub loop-k-preserved : goal.loop-k-preserved
loop-k-preserved c =
    let l = c.loop-k in (
      pass_one l.invariant.0 c.loop-k-test.true
          (rw (c.piece_at-piece.ensures, l.invariant.1) at c.labels_move.ensures)
          (rw c.if-not-labels_move.false),
      next_cursor _ l.k c.piece_at-piece.ensures l.invariant.1 c.after-cursor.ensures.0,
    )

pub returns : goal.returns
unfolding all_labels_move
returns c =
    pass_all c.loop-k.invariant.0 (omega arith)
