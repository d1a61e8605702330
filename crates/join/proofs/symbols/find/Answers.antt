-- `find` meets its contract: no definition of the pieces passed is the symbol's.
use Rattle.std.proofs.Common.{sym, arith}
use Rattle.seqs.proofs.Scans.{refuse_none, refuse_next, refuse_first, refuse_end}
use Rattle.join.specs.Symbols.{find}
use Rattle.join.proofs.Turns.{next_cursor}
use Rattle.join.proofs.Cursors.{cursor_none}
use Rattle.join.proofs.symbols.find.Goals as goal

pub loop-k-init : goal.loop-k-init
loop-k-init c = (refuse_none _ _, sym (cursor_none _))

pub returns-then-found-ne-UNDEFINED : goal.returns-then-found-ne-UNDEFINED
unfolding find
returns-then-found-ne-UNDEFINED c =
    refuse_first c.loop-k.invariant.0 c.loop-k-test.true (rw (c.piece_at-piece.ensures, c.loop-k.invariant.1) at c.find_in-found.ensures) c.if-found-ne-UNDEFINED.true

pub loop-k-preserved : goal.loop-k-preserved
loop-k-preserved c =
    let l = c.loop-k in (
      refuse_next l.invariant.0 c.loop-k-test.true (rw (c.piece_at-piece.ensures, l.invariant.1) at c.find_in-found.ensures) c.if-found-ne-UNDEFINED.false,
      next_cursor _ l.k c.piece_at-piece.ensures l.invariant.1 c.after-cursor.ensures.0,
    )

pub returns : goal.returns
unfolding find
returns c =
    refuse_end c.loop-k.invariant.0 (omega arith)
