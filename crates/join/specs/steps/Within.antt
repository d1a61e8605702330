-- What the loops of join are handed: pieces that lie within what is lent, at cursors that are far below 2^64.
use Rattle.std.specs.Prelude.{◌≡◌, ℕ, ◌+◌, ◌*◌, ◌<◌, ◌≤◌, true, List, length}
use Rattle.buffer.specs.Tables.{label_size, reloc_size}
use Rattle.join.specs.declared.Piece.{Piece}
use Rattle.join.specs.declared.Cursor.{Cursor}
use Rattle.join.specs.Pieces.{piece_size, definition_size, piece_at, piece_fits, cursor_at}

-- more than a piece adds to any part of a cursor: less than 2^32 of its own, and less than 4,096 of zeros
abbrev pub stride : ℕ
stride = 8589934592

-- what a base is at most: 2^42
abbrev pub most_base : ℕ
most_base = 4398046511104

-- a cursor that k pieces lead to
pub record NearBy (k : ℕ) (c : Cursor) : Type 0 where
  pub code : c.code ≤ k * stride
  pub labels : c.labels ≤ k * stride
  pub relocs : c.relocs ≤ k * stride
  pub definitions : c.definitions ≤ k * stride
  pub end : c.end ≤ k * stride

-- 256 of them
abbrev pub Near : Cursor → Type 0
Near c = NearBy 256 c

-- a piece that fits, at a cursor that is near
pub record Placed (p : Piece) (c : Cursor) : Type 0 where
  pub fits : piece_fits p ≡ true
  pub near : Near c

-- its labels, definitions and relocations are lent
abbrev pub Labelled : List ℕ → Piece → Cursor → Type 0
Labelled labels p c = (c.labels + p.labels) * label_size ≤ length labels

abbrev pub DefinitionsIn : List ℕ → Piece → Cursor → Type 0
DefinitionsIn definitions p c = (c.definitions + p.definitions) * definition_size ≤ length definitions

abbrev pub RelocsIn : List ℕ → Piece → Cursor → Type 0
RelocsIn relocs p c = (c.relocs + p.relocs) * reloc_size ≤ length relocs

abbrev pub CodeIn : List ℕ → Piece → Cursor → Type 0
CodeIn code p c = c.code + p.len ≤ length code

-- each of the first n pieces
pub record Pieces (pieces : List ℕ) (n : ℕ) : Type 0 where
  pub room : n * piece_size ≤ length pieces
  pub placed : (k : ℕ) → k < n → Placed (piece_at pieces k) (cursor_at pieces k)

pub record Labels (pieces labels : List ℕ) (n : ℕ) : Type 0 where
  pub standing : Pieces pieces n
  pub each : (k : ℕ) → k < n → Labelled labels (piece_at pieces k) (cursor_at pieces k)

pub record Symbols (pieces labels definitions : List ℕ) (n : ℕ) : Type 0 where
  pub labelled : Labels pieces labels n
  pub each : (k : ℕ) → k < n → DefinitionsIn definitions (piece_at pieces k) (cursor_at pieces k)

pub record Relocations (pieces relocs : List ℕ) (n : ℕ) : Type 0 where
  pub standing : Pieces pieces n
  pub each : (k : ℕ) → k < n → RelocsIn relocs (piece_at pieces k) (cursor_at pieces k)
