-- `gap` meets its contract: an end at a multiple, and one past it.
use Rattle.std.proofs.Common.{sym, mod-lt, arith}
use Rattle.encoder.proofs.Padding.{padding_none, padding_some}
use Rattle.join.specs.Pieces.{boundary}
use Rattle.join.proofs.Cursors.{boundary_range, gap_below}
use Rattle.join.proofs.pieces.PlacedPiece.gap.Goals as goal

pub nonzero_rem-past : goal.nonzero_rem-past
nonzero_rem-past c =
    rw c.boundary-multiple.ensures (boundary_range c.args.self.piece c.args.self.placed.fits).0

pub returns-then-past-eq0 : goal.returns-then-past-eq0
returns-then-past-eq0 c =
    let a = c.args in
    let range = boundary_range a.self.piece c.args.self.placed.fits in
    (sym (padding_none a.self.cursor.end (boundary a.self.piece) range.0 (rw c.boundary-multiple.ensures at c.if-past-eq0.true)), omega arith)

pub overflow_sub-result : goal.overflow_sub-result
overflow_sub-result c =
    let a = c.args in
    let range = boundary_range a.self.piece c.args.self.placed.fits in
    rw c.boundary-multiple.ensures (omega (arith, mod-lt a.self.cursor.end {m = boundary a.self.piece} range.0))

pub returns-else-past-eq0 : goal.returns-else-past-eq0
returns-else-past-eq0 c =
    let a = c.args in
    let range = boundary_range a.self.piece c.args.self.placed.fits in
    let some = rw c.boundary-multiple.ensures at c.if-past-eq0.false in
    let whole = padding_some a.self.cursor.end (boundary a.self.piece) range.0 (omega (arith, some)) in
    rw c.boundary-multiple.ensures (sym whole, rw whole at (gap_below a.self.piece a.self.cursor c.args.self.placed.fits))
