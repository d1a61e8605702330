-- A turn of a loop over pieces: the piece and the cursor that it has, and what is known of them.
use Rattle.std.proofs.Common.{◌≡◌, ℕ, ◌+◌, ◌<◌, ◌≤◌, List, ◌∙◌, arith}
use Rattle.join.specs.declared.Piece.{Piece}
use Rattle.join.specs.declared.Cursor.{Cursor}
use Rattle.join.specs.Pieces.{piece_at, after, cursor_at}
use Rattle.join.specs.steps.Within.{Placed, Labelled, DefinitionsIn, RelocsIn, Pieces, Labels, Symbols, Relocations}
use Rattle.join.proofs.Cursors.{cursor_next}

-- piece k and the cursor in front of it
pub record Turn (pieces : List ℕ) (k : ℕ) (p : Piece) (c : Cursor) : Type 0 where
  pub piece : p ≡ piece_at pieces k
  pub cursor : c ≡ cursor_at pieces k

-- the cursor of the next
pub next_cursor : (pieces : List ℕ) (k : ℕ) {p : Piece} {c d : Cursor} → p ≡ piece_at pieces k → c ≡ cursor_at pieces k → d ≡ after p c
    → d ≡ cursor_at pieces (k + 1)
next_cursor pieces k piece cursor e = e ∙ rw (piece, cursor) (cursor_next pieces k)

module _ {pieces : List ℕ} {k : ℕ} {p : Piece} {c : Cursor} (turn : Turn pieces k p c) where
  module _ {n : ℕ} (within : k < n) where
    pub turn_placed : Pieces pieces n → Placed p c
    turn_placed s = rw (turn.piece, turn.cursor) (s.placed k within)

    pub turn_labelled : {labels : List ℕ} → Labels pieces labels n → Labelled labels p c
    turn_labelled s = rw (turn.piece, turn.cursor) (s.each k within)

    pub turn_defining : {labels definitions : List ℕ} → Symbols pieces labels definitions n → DefinitionsIn definitions p c
    turn_defining s = rw (turn.piece, turn.cursor) (s.each k within)

    pub turn_relocating : {relocs : List ℕ} → Relocations pieces relocs n → RelocsIn relocs p c
    turn_relocating s = rw (turn.piece, turn.cursor) (s.each k within)

-- the first n pieces are the first k, where k is not more
pub fewer_symbols : {pieces labels definitions : List ℕ} {n : ℕ} (k : ℕ) → k ≤ n → Symbols pieces labels definitions n → Symbols pieces labels definitions k
fewer_symbols k few s =
    record {
      labelled = record {
        standing = record { room = omega (arith, s.labelled.standing.room); placed = λ i h. s.labelled.standing.placed i (omega arith) };
        each = λ i h. s.labelled.each i (omega arith);
      };
      each = λ i h. s.each i (omega arith);
    }
