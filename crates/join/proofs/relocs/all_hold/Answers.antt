-- `all_hold` meets its contract: the test holds of all the relocations of the pieces passed.
use Rattle.std.proofs.Common.{sym, arith}
use Rattle.seqs.proofs.Scans.{pass_none, pass_one, pass_fails, pass_all}
use Rattle.join.proofs.Cursors.{cursor_none}
use Rattle.join.specs.Join.{all_hold}
use Rattle.join.proofs.Turns.{next_cursor}
use Rattle.join.proofs.relocs.all_hold.Goals as goal

pub loop-k-init : goal.loop-k-init
loop-k-init g c = (λ asked known asks. pass_none _ _, sym (cursor_none _))

pub returns-then-not-relocs_hold : goal.returns-then-not-relocs_hold
unfolding all_hold
returns-then-not-relocs_hold g c =
    λ asked known asks.
    pass_fails (c.loop-k.invariant.0 asked known asks) c.loop-k-test.true
    (rw (c.piece_at-piece.ensures, c.loop-k.invariant.1) at (c.relocs_hold.ensures asked known asks))
    (rw c.if-not-relocs_hold.true)

pub loop-k-preserved : goal.loop-k-preserved
loop-k-preserved g c =
    let l = c.loop-k in (
      λ asked known asks.
          pass_one (l.invariant.0 asked known asks) c.loop-k-test.true
          (rw (c.piece_at-piece.ensures, l.invariant.1) at (c.relocs_hold.ensures asked known asks))
          (rw c.if-not-relocs_hold.false),
      next_cursor _ l.k c.piece_at-piece.ensures l.invariant.1 c.after-cursor.ensures.0,
    )

pub returns : goal.returns
unfolding all_hold
returns g c = λ asked known asks. pass_all (c.loop-k.invariant.0 asked known asks) (omega arith)
