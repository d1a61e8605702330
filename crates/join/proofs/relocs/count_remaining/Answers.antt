-- `count_remaining` meets its contract: how many of the pieces passed remain.
use Rattle.std.proofs.Common.{sym, refl, ap, add-one, arith}
use Rattle.join.specs.declared.Cursor.{Cursor}
use Rattle.join.specs.Join.{count_remaining}
use Rattle.join.proofs.Cursors.{cursor_none}
use Rattle.join.proofs.Turns.{Turn, next_cursor, turn_relocating}
use Rattle.join.proofs.Writing.{count_le}
use Rattle.join.proofs.relocs.count_remaining.Goals as goal

pub loop-k-init : goal.loop-k-init
unfolding count_remaining
loop-k-init c = (omega arith, refl, sym (cursor_none _), omega arith)

pub overflow_add-count : goal.overflow_add-count
overflow_add-count c =
    let turn : Turn c.args.pieces.now c.loop-k.k c.piece_at-piece.result c.loop-k.cursor =
    record { piece = c.piece_at-piece.ensures; cursor = c.loop-k.invariant.2 } in
    let lent = turn_relocating turn c.loop-k-test.true c.requires in
    let few = count_le c.args.relocs.now c.piece_at-piece.result c.loop-k.cursor c.piece_at-piece.result.relocs in
    omega (arith, c.count_remaining_in-count.ensures, few, c.loop-k.invariant.3, lent)

pub loop-k-preserved : goal.loop-k-preserved
unfolding count_remaining
loop-k-preserved c =
    let l = c.loop-k in
    let few = count_le c.args.relocs.now c.piece_at-piece.result l.cursor c.piece_at-piece.result.relocs in (
      omega arith,
      rw (add-one l.k, c.count_remaining_in-count.ensures, l.invariant.1, c.piece_at-piece.ensures, l.invariant.2) refl,
      next_cursor _ l.k c.piece_at-piece.ensures l.invariant.2 c.after-cursor.ensures.0,
      omega (arith, c.count_remaining_in-count.ensures, few, l.invariant.3, ap (λ (d : Cursor). d.relocs) c.after-cursor.ensures.0),
    )
