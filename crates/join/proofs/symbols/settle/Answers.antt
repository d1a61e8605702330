-- `settle` meets its contract: the definitions of the pieces passed are new, and noted.
use Rattle.std.proofs.Common.{◌≡◌, sym, refl, ◌∙◌, arith}
use Rattle.seqs.proofs.Booleans.{true_is_not_false}
use Rattle.seqs.proofs.Scans.{pass_none, pass_one, pass_fails, pass_all}
use Rattle.join.specs.Symbols.{defined_once}
use Rattle.join.proofs.Cursors.{cursor_none}
use Rattle.join.proofs.Tables.{begun_all}
use Rattle.join.proofs.Turns.{next_cursor}
use Rattle.join.proofs.symbols.settle.Goals as goal

pub loop-k-init : goal.loop-k-init
loop-k-init c =
    (pass_none _ _, sym (cursor_none _), c.requires.settled, refl)

pub returns-then-not-settle_piece : goal.returns-then-not-settle_piece
unfolding defined_once
returns-then-not-settle_piece c = (
  pass_fails c.loop-k.invariant.0 c.loop-k-test.true
      (rw (c.piece_at-piece.ensures, c.loop-k.invariant.1) at c.settle_piece.ensures.0)
      (rw c.if-not-settle_piece.true),
  λ e. absurd (true_is_not_false (sym e)),
)

pub loop-k-preserved : goal.loop-k-preserved
loop-k-preserved c =
    let l = c.loop-k in (
      pass_one l.invariant.0 c.loop-k-test.true
          (rw (c.piece_at-piece.ensures, l.invariant.1) at c.settle_piece.ensures.0)
          (rw c.if-not-settle_piece.false),
      next_cursor _ l.k c.piece_at-piece.ensures l.invariant.1 c.after-cursor.ensures.0,
      begun_all (record { piece = c.piece_at-piece.ensures; cursor = l.invariant.1 }) (c.settle_piece.ensures.1 (c.if-not-settle_piece.false)),
      c.settle_piece.ensures.2 ∙ l.invariant.3,
    )

pub returns : goal.returns
unfolding defined_once
returns c =
    let all : c.loop-k.k ≡ c.args.n = omega (arith, c.loop-k.invariant.0.within) in
    (pass_all c.loop-k.invariant.0 (omega arith), λ e. rw all at c.loop-k.invariant.2)
