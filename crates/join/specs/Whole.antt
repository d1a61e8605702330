-- What a join that answers 0 leaves, as one claim: document 02, Request Six. A byte of a piece that no filled field covers is the piece's own, moved by its
-- base; gaps are zeros; a filled field means its symbol, whose place is the offset, in the label table of the whole, of the label that defines it; labels
-- move; and each relocation that remains is its piece's, moved, in order.
use Rattle.std.specs.Prelude.{◌≡◌, ℕ, ◌+◌, ◌*◌, ◌<◌, ◌≤◌, true, false, ◌≢◌, ◌⊎◌, List, length, slice_index}
use Rattle.words.specs.Words.{word_at, bytes_of}
use Rattle.fields.specs.Words64.{plus, sign_extend}
use Rattle.buffer.specs.State.{none}
use Rattle.buffer.specs.Tables.{reloc_words}
use Rattle.join.specs.declared.Piece.{Piece}
use Rattle.join.specs.declared.Cursor.{Cursor}
use Rattle.join.specs.declared.AsmReloc.{AsmReloc}
use Rattle.join.specs.Pieces.{Lent, piece_count, piece_at, gap, base_of, cursor_at}
use Rattle.join.specs.Symbols.{symbol_at, defining_label}
use Rattle.join.specs.Join.{is_filled, piece_reloc, field_size, moved_label, moved_reloc, count_remaining_in, count_remaining}

-- piece k, how far the pieces before it reach, its base, and its relocation j
abbrev pub piece : Lent → ℕ → Piece
piece l k = piece_at l.pieces k

abbrev pub before : Lent → ℕ → Cursor
before l k = cursor_at l.pieces k

abbrev pub base : Lent → ℕ → ℕ
base l k = base_of (piece l k) (before l k)

abbrev pub reloc : Lent → ℕ → ℕ → AsmReloc
reloc l k j = piece_reloc l.relocs (before l k) j

abbrev pub Filled : Lent → ℕ → ℕ → Type 0
Filled l k j = is_filled (piece l k).arch (reloc l k j) ≡ true

-- byte i of piece k lies outside the field of relocation j
abbrev pub Beside : Lent → ℕ → ℕ → ℕ → Type 0
Beside l k i j = (i < (reloc l k j).offset) ⊎ ((reloc l k j).offset + field_size ≤ i)

-- no field that is filled covers byte i of piece k
abbrev pub Uncovered : Lent → ℕ → ℕ → Type 0
Uncovered l k i = (j : ℕ) → j < (piece l k).relocs → Filled l k j → Beside l k i j

-- A symbol's place: definition `entry` of piece `number` has the symbol, its label is one of that piece and is bound, and this is the offset that the label
-- has in the label table of the whole.
pub record SymbolPlace (l : Lent) (labels : List ℕ) (symbol : ℕ) : Type 0 where
  pub number : ℕ
  pub entry : ℕ
  pub known : number < piece_count l.pieces
  pub listed : entry < (piece l number).definitions
  pub names : symbol_at l.definitions (before l number) entry ≡ symbol
  pub label : defining_label l.definitions (before l number) entry < (piece l number).labels
  pub bound : word_at labels ((before l number).labels + defining_label l.definitions (before l number) entry) ≢ none

abbrev pub place_of : {l : Lent} {labels : List ℕ} {symbol : ℕ} → SymbolPlace l labels symbol → ℕ
place_of {l} {labels} s = word_at labels ((before l s.number).labels + defining_label l.definitions (before l s.number) s.entry)

-- The field of relocation j of piece k, which is filled: there is a number that, by Intel's manual, means the symbol's place plus the addend; and each byte of
-- the field that no later field covers is that number's.
pub record FieldFilled (l : Lent) (code labels : List ℕ) (k j : ℕ) : Type 0 where
  pub symbol : SymbolPlace l labels (reloc l k j).target
  pub number : ℕ
  pub means : plus (base l k + (reloc l k j).offset) (sign_extend 32 number) ≡ plus (place_of symbol) (reloc l k j).addend
  pub stands : (i : ℕ) → i < field_size
      → ((later : ℕ) → j < later → later < (piece l k).relocs → Filled l k later → Beside l k ((reloc l k j).offset + i) later)
      → slice_index code (base l k + ((reloc l k j).offset + i)) ≡ slice_index (bytes_of number) i

-- the number in the whole of relocation j of piece k, which is not filled: how many remain before it
abbrev pub number_of : Lent → ℕ → ℕ → ℕ
number_of l k j = count_remaining l.pieces l.relocs k + count_remaining_in l.relocs (piece l k) (before l k) j

pub record Whole (l : Lent) (code labels relocs : List ℕ) : Type 0 where
  pub bytes : (k : ℕ) → k < piece_count l.pieces → (i : ℕ) → i < (piece l k).len → Uncovered l k i
      → slice_index code (base l k + i) ≡ slice_index l.code ((before l k).code + i)
  pub within : (k : ℕ) → k < piece_count l.pieces → base l k + (piece l k).len ≤ length code
  pub gaps : (k : ℕ) → k < piece_count l.pieces → (i : ℕ) → i < gap (piece l k) (before l k) → slice_index code ((before l k).end + i) ≡ 0
  pub fields : (k : ℕ) → k < piece_count l.pieces → (j : ℕ) → j < (piece l k).relocs → Filled l k j → FieldFilled l code labels k j
  pub moved : (k : ℕ) → k < piece_count l.pieces → (j : ℕ) → j < (piece l k).labels
      → word_at labels ((before l k).labels + j) ≡ moved_label (base l k) (word_at l.labels ((before l k).labels + j))
  -- word w of a relocation that remains; what is lent is bytes
  pub remain : ((i : ℕ) → slice_index l.relocs i < 256) → (k : ℕ) → k < piece_count l.pieces → (j : ℕ) → j < (piece l k).relocs → is_filled (piece l k).arch (reloc l k j) ≡ false → (w : ℕ) → w < reloc_words
      → word_at relocs (number_of l k j * reloc_words + w) ≡ slice_index (moved_reloc (piece l k) (before l k) (reloc l k j)) w
