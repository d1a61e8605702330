-- What the writing of the whole is handed: pieces of which nothing refuses the joining.
use Rattle.std.specs.Prelude.{◌≡◌, ℕ, ◌+◌, ◌*◌, ◌<◌, ◌≤◌, true, false, List}
use Rattle.buffer.specs.State.{label_target}
use Rattle.buffer.specs.Tables.{label_size, reloc_size}
use Rattle.join.specs.declared.Piece.{Piece}
use Rattle.join.specs.declared.Cursor.{Cursor}
use Rattle.join.specs.declared.AsmReloc.{AsmReloc}
use Rattle.join.specs.Pieces.{Lent, most_pieces, base_of, piece_at, cursor_at, pieces_fit}
use Rattle.join.specs.Symbols.{find}
use Rattle.join.specs.Join.{Inside, last_place, is_filled, piece_reloc, relocs_hold, all_hold, labels_move, all_labels_move, count_remaining_in, count_remaining}
use Rattle.join.specs.steps.Within.{Placed, Labelled, RelocsIn, CodeIn, Labels, Relocations}

-- a relocation that remains has an offset in the whole, and its target is below 2^32 there
pub record RelocMoves (p : Piece) (c : Cursor) (r : AsmReloc) : Type 0 where
  pub offset : is_filled p.arch r ≡ false → base_of p c + r.offset ≤ last_place
  pub target : is_filled p.arch r ≡ false → label_target ≤ r.target → r.target + c.labels < 4294967296

-- so do those of a piece
abbrev pub RelocsMove : List ℕ → Piece → Cursor → Type 0
RelocsMove relocs p c = (j : ℕ) → j < p.relocs → RelocMoves p c (piece_reloc relocs c j)

-- a piece that is written at a cursor, its relocations from entry `at` on, into outputs of so many bytes
pub record Puts (known : ℕ → ℕ) (l : Lent) (p : Piece) (c : Cursor) (at output label-bytes reloc-bytes : ℕ) : Type 0 where
  pub placed : Placed p c
  pub code : CodeIn l.code p c
  pub labels : Labelled l.labels p c
  pub relocs : RelocsIn l.relocs p c
  pub inside : relocs_hold Inside known l.relocs p c p.relocs ≡ true
  pub labels_moved : labels_move l.labels p c p.labels ≡ true
  pub relocs_move : RelocsMove l.relocs p c
  pub output_room : base_of p c + p.len ≤ output
  pub labels_room : (c.labels + p.labels) * label_size ≤ label-bytes
  pub relocs_room : (at + count_remaining_in l.relocs p c p.relocs) * reloc_size ≤ reloc-bytes

-- all pieces
pub record Joins (l : Lent) (n output label-bytes reloc-bytes : ℕ) : Type 0 where
  pub few : n ≤ most_pieces
  pub labels : Labels l.pieces l.labels n
  pub relocations : Relocations l.pieces l.relocs n
  pub code : (k : ℕ) → k < n → CodeIn l.code (piece_at l.pieces k) (cursor_at l.pieces k)
  pub inside : all_hold Inside (find l.pieces l.labels l.definitions n) l.pieces l.relocs n ≡ true
  pub labels_moved : all_labels_move l.pieces l.labels n ≡ true
  pub relocs_move : (k : ℕ) → k < n → RelocsMove l.relocs (piece_at l.pieces k) (cursor_at l.pieces k)
  pub output_room : (cursor_at l.pieces n).end ≤ output
  pub labels_room : (cursor_at l.pieces n).labels * label_size ≤ label-bytes
  pub relocs_room : count_remaining l.pieces l.relocs n * reloc_size ≤ reloc-bytes

-- and its record: every number of it is below 2^32
pub record Whole (pieces relocs : List ℕ) (n : ℕ) : Type 0 where
  pub relocations : Relocations pieces relocs n
  pub some : 0 < n
  pub few : n ≤ most_pieces
  pub fits : pieces_fit pieces n ≡ true
  pub end : (cursor_at pieces n).end ≤ last_place
  pub label_count : (cursor_at pieces n).labels < 4294967296
  pub reloc_count : count_remaining pieces relocs n < 4294967296
