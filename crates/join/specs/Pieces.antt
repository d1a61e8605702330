-- What is lent to be joined: document 02, Request Six, "1 to 256 finished records of one architecture". A piece is a finished record, its code, its labels
-- and relocations as finish left them, and its definitions of symbols. One table has an entry for each piece: the six words of its record, and how many
-- definitions it has. The code, the labels, the relocations and the definitions of all pieces follow one another in four slices.
use Rattle.std.specs.Prelude.{ℕ, zero, suc, ◌+◌, ◌*◌, ◌/◌, max, Bool, ◌&&◌, ◌||◌, List, length, ◌==◌, nat_eq, nat_le}
use Rattle.seqs.specs.Every.{all}
use Rattle.seqs.specs.Pick.{pick}
use Rattle.words.specs.Words.{word_at}
use Rattle.encoder.specs.Padding.{padding_length}
use Rattle.fields.specs.Kinds.{arch_a64}
use Rattle.buffer.specs.Refusals.{arch_occurs}
use Rattle.buffer.specs.Tables.{most_entries, most_code, label_size, reloc_size}
use Rattle.join.specs.declared.Piece.{Piece}
use Rattle.join.specs.declared.Cursor.{Cursor}

pub record Lent : Type 0 where
  pub pieces : List ℕ
  pub code : List ℕ
  pub labels : List ℕ
  pub relocs : List ℕ
  pub definitions : List ℕ

abbrev pub lent_of : List ℕ → List ℕ → List ℕ → List ℕ → List ℕ → Lent
lent_of pieces code labels relocs definitions =
    record { pieces = pieces; code = code; labels = labels; relocs = relocs; definitions = definitions }

abbrev pub most_pieces : ℕ
most_pieces = 256

-- an entry of the table of pieces, in words and in bytes
abbrev pub piece_words : ℕ
piece_words = 7

abbrev pub piece_size : ℕ
piece_size = 28

-- a definition: a symbol's number and the label, one of its piece, that defines it
abbrev pub definition_words : ℕ
definition_words = 2

abbrev pub definition_size : ℕ
definition_size = 8

-- the two alignments that a record gives, and the bytes of a page
abbrev pub code_alignment : ℕ
code_alignment = 32

abbrev pub wide_alignment : ℕ
wide_alignment = 64

abbrev pub page_size : ℕ
page_size = 4096

-- how many pieces are lent: the whole entries
abbrev pub piece_count : List ℕ → ℕ
piece_count pieces = length pieces / piece_size

-- piece k
unfoldable pub piece_at : List ℕ → ℕ → Piece
piece_at pieces k =
    record {
      arch = word_at pieces (k * piece_words);
      len = word_at pieces (k * piece_words + 1);
      alignment = word_at pieces (k * piece_words + 2);
      labels = word_at pieces (k * piece_words + 4);
      relocs = word_at pieces (k * piece_words + 5);
      definitions = word_at pieces (k * piece_words + 6);
    }

-- "each starts at the next multiple of its alignment (of 4,096 on AArch64, or pages would shift)"
abbrev pub boundary : Piece → ℕ
boundary p = pick (p.arch == arch_a64) page_size p.alignment

-- the zeros in front of a piece, and its base; the cursor is how far the pieces before it reach, in each slice and in the whole
abbrev pub gap : Piece → Cursor → ℕ
gap p c = padding_length c.end (boundary p)

abbrev pub base_of : Piece → Cursor → ℕ
base_of p c = c.end + gap p c

abbrev pub after : Piece → Cursor → Cursor
after p c =
    record {
      code = c.code + p.len;
      labels = c.labels + p.labels;
      relocs = c.relocs + p.relocs;
      definitions = c.definitions + p.definitions;
      end = base_of p c + p.len;
    }

-- how far the first k pieces reach
unfoldable pub cursor_at : List ℕ → ℕ → Cursor
cursor_at pieces zero = record { code = 0; labels = 0; relocs = 0; definitions = 0; end = 0 }
cursor_at pieces (suc k) = after (piece_at pieces k) (cursor_at pieces k)

-- an architecture that occurs, and an alignment that a record gives
abbrev pub piece_fits : Piece → Bool
piece_fits p = arch_occurs p.arch && (p.alignment == code_alignment || p.alignment == wide_alignment)

-- no sum passes what is lent
abbrev pub sums_fit : Lent → Cursor → Bool
sums_fit l c =
    nat_le c.code (length l.code)
    && (nat_le c.labels (length l.labels / label_size)
    && (nat_le c.relocs (length l.relocs / reloc_size) && nat_le c.definitions (length l.definitions / definition_size)))

-- "Number 3 looks at each piece's tables alone."
abbrev pub piece_within_limits : Piece → Bool
piece_within_limits p =
    nat_le p.len most_code && (nat_le p.labels most_entries && (nat_le p.relocs most_entries && nat_le p.definitions most_entries))

-- each of the first n
unfoldable pub pieces_fit : List ℕ → ℕ → Bool
pieces_fit pieces n = all (λ (k : ℕ). piece_fits (piece_at pieces k)) n

unfoldable pub within_limits : List ℕ → ℕ → Bool
within_limits pieces n = all (λ (k : ℕ). piece_within_limits (piece_at pieces k)) n

unfoldable pub same_arch : List ℕ → ℕ → Bool
same_arch pieces n = all (λ (k : ℕ). nat_eq (piece_at pieces k).arch (piece_at pieces 0).arch) n

-- "The whole's alignment is the greatest that a record gives."
unfoldable pub greatest_alignment : List ℕ → ℕ → ℕ
greatest_alignment pieces zero = 0
greatest_alignment pieces (suc k) = max (greatest_alignment pieces k) (piece_at pieces k).alignment
