-- `after` meets its contract: no sum passes 64 bits, and every number of the cursor is near.
use Rattle.std.proofs.Common.{◌+◌, sym, subst, arith}
use Rattle.join.specs.steps.Within.{NearBy}
use Rattle.join.proofs.Cursors.{Counts, after_base, near_after}
use Rattle.join.proofs.pieces.PlacedPiece.after.Goals as goal

pub returns : goal.returns
returns c =
    let a = c.args in
    let whole = after_base a.self.piece a.self.cursor c.base.result c.base.ensures.0 in
    let few : Counts a.self.piece = record { len = omega arith; labels = omega arith; relocs = omega arith; definitions = omega arith } in
    (whole, λ k near. subst (NearBy (k + 1)) (sym whole) (near_after k a.self.piece a.self.cursor c.args.self.placed.fits few near))
