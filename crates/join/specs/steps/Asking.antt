-- What is asked of every relocation, as a test that the program calls.
use Rattle.std.specs.Prelude.{◌≡◌, ℕ, Bool}
use Rattle.join.specs.declared.pieces.PlacedPiece.{PlacedPiece}
use Rattle.join.specs.declared.AsmReloc.{AsmReloc}
use Rattle.join.specs.Join.{Test, holds}

-- it may be asked of any relocation of a piece that is placed
abbrev pub Callable : (PlacedPiece → AsmReloc → Type 0) → Type 0
Callable pre = (p : PlacedPiece) (r : AsmReloc) → pre p r

-- and answers as the definition does
abbrev pub Asks : (PlacedPiece → AsmReloc → Bool → Type 0) → Test → (ℕ → ℕ) → Type 0
Asks post test known = (p : PlacedPiece) (r : AsmReloc) (b : Bool) → post p r b → b ≡ holds test known p.piece p.cursor r
