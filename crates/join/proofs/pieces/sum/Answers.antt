-- `sum` meets its contract: the cursor behind the pieces passed, which is near.
use Rattle.std.proofs.Common.{ℕ, sym, arith}
use Rattle.seqs.proofs.Every.{all_at}
use Rattle.join.specs.Pieces.{piece_at, piece_fits, pieces_fit}
use Rattle.join.proofs.Cursors.{near_most, cursor_none, cursor_next}
use Rattle.join.proofs.pieces.sum.Goals as goal

pub loop-k-init : goal.loop-k-init
loop-k-init c = (omega arith, sym (cursor_none _), record { code = omega arith; labels = omega arith; relocs = omega arith; definitions = omega arith; end = omega arith })

pub invariant_of-placed : goal.invariant_of-placed
unfolding pieces_fit
invariant_of-placed c =
    let pieces = c.args.pieces.now in
    record { placed = record { fits = rw c.piece_at-piece.ensures (all_at (λ (i : ℕ). piece_fits (piece_at pieces i)) _ _ c.requires.pieces_fit (omega arith)); near = near_most _ _ (omega arith) c.loop-k.invariant.2 } }

pub loop-k-preserved : goal.loop-k-preserved
loop-k-preserved c =
    let l = c.loop-k in (
      omega arith,
      rw (c.after-cursor.ensures.0, c.piece_at-piece.ensures, l.invariant.1) (cursor_next c.args.pieces.now l.k),
      c.after-cursor.ensures.1 l.k l.invariant.2,
    )
