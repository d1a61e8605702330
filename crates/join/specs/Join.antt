-- Joining: document 02, Request Six. Which relocations are filled and with what; the code, the labels and the relocations of the whole; why pieces are not
-- joined; and what join answers and leaves.
use Rattle.std.specs.Prelude.{ℕ, zero, suc, ◌+◌, ◌-◌, ◌/◌, ◌%◌, Bool, true, not, ◌&&◌, ◌||◌, List, [], ◌∷◌, ◌++◌, length, take, drop, replicate, ◌==◌, nat_le, nat_lt, Result, Ok, Err}
use Rattle.refusals.specs.Numbers as refusals
use Rattle.refusals.specs.declared.Refusal.{Refusal}
use Rattle.refusals.specs.Answers.{number_of}
use Rattle.seqs.specs.Counting.{how_many}
use Rattle.seqs.specs.Every.{all}
use Rattle.seqs.specs.Over.{over}
use Rattle.seqs.specs.Pick.{pick, first, or_else}
use Rattle.words.specs.Words.{word_at, bytes_of, over_words}
use Rattle.fields.specs.Kinds.{arch_x64}
use Rattle.fields.specs.Words64.{plus, minus, range}
use Rattle.buffer.specs.State.{none, label_target}
use Rattle.buffer.specs.Tables.{label_size, reloc_size}
use Rattle.recording.specs.View.{reloc_at, entries}
use Rattle.finish.specs.declared.CodeBufferFinalized.{CodeBufferFinalized}
use Rattle.join.specs.declared.Piece.{Piece}
use Rattle.join.specs.declared.Cursor.{Cursor}
use Rattle.join.specs.declared.AsmReloc.{AsmReloc}
use Rattle.join.specs.Pieces.{
  Lent,
  most_pieces,
  piece_count,
  piece_at,
  gap,
  base_of,
  cursor_at,
  sums_fit,
  pieces_fit,
  within_limits,
  same_arch,
  greatest_alignment,
}
use Rattle.join.specs.Symbols.{first_place, find, defined_once}

-- the last offset that a label or a relocation of the whole may have, and its greatest length: 0xFFFFFFFF is no offset
abbrev pub last_place : ℕ
last_place = 4294967294

-- the kinds whose fields are filled: X86PCRel4, X86CallPCRel4 and X86CallPLTRel4
abbrev pub first_filled : ℕ
first_filled = 2

abbrev pub last_filled : ℕ
last_filled = 4

-- "A relocation to a symbol of kind X86PCRel4 or a call kind on X64 is filled"
abbrev pub is_filled : ℕ → AsmReloc → Bool
is_filled arch r = arch == arch_x64 && (nat_lt r.target label_target && (nat_le first_filled r.kind && nat_le r.kind last_filled))

-- relocation i of all, and relocation j of the piece at a cursor
unfoldable pub reloc_of : List ℕ → ℕ → AsmReloc
reloc_of relocs i =
    record { offset = (reloc_at relocs i).offset; kind = (reloc_at relocs i).kind; target = (reloc_at relocs i).target; addend = (reloc_at relocs i).addend }

abbrev pub piece_reloc : List ℕ → Cursor → ℕ → AsmReloc
piece_reloc relocs c j = reloc_of relocs (c.relocs + j)

-- the bytes of a filled field
abbrev pub field_size : ℕ
field_size = 4

-- "symbol plus addend minus its own place", of what is known of the symbol
abbrev pub value : ℕ → Piece → Cursor → AsmReloc → ℕ
value known p c r = minus (plus (known - first_place) r.addend) (base_of p c + r.offset)

-- "32 bits signed"
abbrev pub fits32 : ℕ → Bool
fits32 v = range 2147483648 2147483647 v

-- What is asked of every relocation, in the order of the refusals: its label is one of its piece; its symbol is defined by a bound label; its field lies in its
-- piece; its value fits; it has an offset in the whole.
pub data Test : Type 0 where
  Known : Test
  Defined : Test
  Inside : Test
  Reaches : Test
  Moves : Test

-- What is asked of a relocation that is filled, where `known` is what is known of each symbol: 29 its symbol is defined by a bound label; 17 its field lies in
-- its piece; 18 its value fits.
abbrev pub filled_holds : Test → (ℕ → ℕ) → Piece → Cursor → AsmReloc → Bool
filled_holds Known known p c r = true
filled_holds Defined known p c r = nat_le first_place (known r.target)
filled_holds Inside known p c r = nat_le (r.offset + field_size) p.len
filled_holds Reaches known p c r = fits32 (value (known r.target) p c r)
filled_holds Moves known p c r = true

-- And of one that remains: 1 its label is one of its piece; 23 it has an offset in the whole.
abbrev pub remaining_holds : Test → Piece → Cursor → AsmReloc → Bool
remaining_holds Known p c r = nat_lt r.target label_target || nat_lt (r.target - label_target) p.labels
remaining_holds Defined p c r = true
remaining_holds Inside p c r = true
remaining_holds Reaches p c r = true
remaining_holds Moves p c r = nat_le (base_of p c + r.offset) last_place

unfoldable pub holds : Test → (ℕ → ℕ) → Piece → Cursor → AsmReloc → Bool
holds test known p c r = pick (is_filled p.arch r) (filled_holds test known p c r) (remaining_holds test p c r)

-- of the first m relocations of a piece, and of those of the first n pieces
unfoldable pub relocs_hold : Test → (ℕ → ℕ) → List ℕ → Piece → Cursor → ℕ → Bool
relocs_hold test known relocs p c m = all (λ (j : ℕ). holds test known p c (piece_reloc relocs c j)) m

unfoldable pub all_hold : Test → (ℕ → ℕ) → List ℕ → List ℕ → ℕ → Bool
all_hold test known pieces relocs n =
    all (λ (k : ℕ). relocs_hold test known relocs (piece_at pieces k) (cursor_at pieces k) (piece_at pieces k).relocs) n

-- "bound labels and relocations move by the piece's base"; an unbound one stays
abbrev pub moved_label : ℕ → ℕ → ℕ
moved_label base offset = pick (offset == none) none (base + offset)

-- 23: a bound label's offset in the whole
abbrev pub label_moves : ℕ → ℕ → Bool
label_moves base offset = offset == none || nat_le (base + offset) last_place

unfoldable pub labels_move : List ℕ → Piece → Cursor → ℕ → Bool
labels_move labels p c m = all (λ (j : ℕ). label_moves (base_of p c) (word_at labels (c.labels + j))) m

unfoldable pub all_labels_move : List ℕ → List ℕ → ℕ → Bool
all_labels_move pieces labels n = all (λ (k : ℕ). labels_move labels (piece_at pieces k) (cursor_at pieces k) (piece_at pieces k).labels) n

-- "label numbers run on": a label target of a relocation that remains
abbrev pub moved_target : Cursor → ℕ → ℕ
moved_target c target = pick (nat_lt target label_target) target (target + c.labels)

-- the words of a relocation that is moved
abbrev pub moved_reloc : Piece → Cursor → AsmReloc → List ℕ
moved_reloc p c r =
    (base_of p c + r.offset) ∷ r.kind ∷ moved_target c r.target ∷ 0 ∷ r.addend % 4294967296 ∷ r.addend / 4294967296 ∷ []

-- "all other relocations remain": the words of one, none where it is filled; those of the first m of a piece, and of the first n pieces
abbrev pub remaining_words : Piece → Cursor → AsmReloc → List ℕ
remaining_words p c r = pick (is_filled p.arch r) [] (moved_reloc p c r)

unfoldable pub remaining_in : List ℕ → Piece → Cursor → ℕ → List ℕ
remaining_in relocs p c zero = []
remaining_in relocs p c (suc m) = remaining_in relocs p c m ++ remaining_words p c (piece_reloc relocs c m)

unfoldable pub remaining : List ℕ → List ℕ → ℕ → List ℕ
remaining pieces relocs zero = []
remaining pieces relocs (suc k) =
    remaining pieces relocs k ++ remaining_in relocs (piece_at pieces k) (cursor_at pieces k) (piece_at pieces k).relocs

-- how many these are
unfoldable pub count_remaining_in : List ℕ → Piece → Cursor → ℕ → ℕ
count_remaining_in relocs p c m = how_many (λ (j : ℕ). not (is_filled p.arch (piece_reloc relocs c j))) m

unfoldable pub count_remaining : List ℕ → List ℕ → ℕ → ℕ
count_remaining pieces relocs zero = 0
count_remaining pieces relocs (suc k) =
    count_remaining pieces relocs k + count_remaining_in relocs (piece_at pieces k) (cursor_at pieces k) (piece_at pieces k).relocs

-- the labels of a piece, and of the first n pieces
abbrev pub moved_labels : List ℕ → Piece → Cursor → ℕ → List ℕ
moved_labels labels p c m = entries (λ (j : ℕ). moved_label (base_of p c) (word_at labels (c.labels + j))) m

unfoldable pub labels_joined : List ℕ → List ℕ → ℕ → List ℕ
labels_joined pieces labels zero = []
labels_joined pieces labels (suc k) =
    labels_joined pieces labels k ++ moved_labels labels (piece_at pieces k) (cursor_at pieces k) (piece_at pieces k).labels

-- the code of a piece with the field of a relocation filled, and with those of the first m, "a later one over an earlier"
abbrev pub field_filled : (ℕ → ℕ) → Piece → Cursor → AsmReloc → List ℕ → List ℕ
field_filled known p c r code =
    pick (is_filled p.arch r) (over code r.offset (bytes_of (value (known r.target) p c r % 4294967296))) code

unfoldable pub filled_with : (ℕ → ℕ) → List ℕ → Piece → Cursor → List ℕ → ℕ → List ℕ
filled_with known relocs p c code zero = code
filled_with known relocs p c code (suc m) = field_filled known p c (piece_reloc relocs c m) (filled_with known relocs p c code m)

-- the code of the piece at a cursor, as lent, and as it is in the whole
abbrev pub piece_code : List ℕ → Piece → Cursor → List ℕ
piece_code code p c = take p.len (drop c.code code)

abbrev pub filled_code : (ℕ → ℕ) → List ℕ → List ℕ → Piece → Cursor → List ℕ
filled_code known relocs code p c = filled_with known relocs p c (piece_code code p c) p.relocs

-- the code of the first n pieces: "gaps are zero". A filled field lies in its piece, so that it is filled piece by piece.
unfoldable pub image : (ℕ → ℕ) → List ℕ → List ℕ → List ℕ → ℕ → List ℕ
image known pieces relocs code zero = []
image known pieces relocs code (suc k) =
    image known pieces relocs code k
    ++ (replicate (gap (piece_at pieces k) (cursor_at pieces k)) 0 ++ filled_code known relocs code (piece_at pieces k) (cursor_at pieces k))

-- what is known of each symbol, of all pieces
abbrev pub known_in : Lent → ℕ → ℕ
known_in l s = find l.pieces l.labels l.definitions (piece_count l.pieces) s

-- 1: "another number of pieces, an architecture that can't occur, an alignment other than 32 or 64, or a relocation's unknown label"; a sum of counts that
-- passes what is lent
abbrev pub lent_fits : Lent → Bool
lent_fits l =
    let n = piece_count l.pieces in
    not (n == 0)
    && (nat_le n most_pieces
    && (pieces_fit l.pieces n && (sums_fit l (cursor_at l.pieces n) && all_hold Known (known_in l) l.pieces l.relocs n)))

-- how many relocations remain
abbrev pub remaining_count : Lent → ℕ
remaining_count l = count_remaining l.pieces l.relocs (piece_count l.pieces)

-- 1, 3 and 27
unfoldable pub why_unfit : Lent → ℕ
why_unfit l =
    let n = piece_count l.pieces in
    first (
    (not (lent_fits l), refusals.malformed)
    ∷ (not (within_limits l.pieces n), refusals.past_limit)
    ∷ (not (same_arch l.pieces n), refusals.architectures_differ)
    ∷ []
    )

-- 28 and 29: "such a relocation's symbol is defined nowhere, or by an unknown or unbound label"
unfoldable pub why_undefined : Lent → ℕ
why_undefined l =
    let n = piece_count l.pieces in
    first (
    (not (defined_once l.pieces l.labels l.definitions n), refusals.symbol_defined_twice)
    ∷ (not (all_hold Defined (known_in l) l.pieces l.relocs n), refusals.symbol_undefined)
    ∷ []
    )

-- "11 for a short label or relocation table", of so many bytes
unfoldable pub why_no_table : Lent → ℕ → ℕ → ℕ
why_no_table l labels relocs =
    first (
    (nat_lt (labels / label_size) (cursor_at l.pieces (piece_count l.pieces)).labels, refusals.table_full)
    ∷ (nat_lt (relocs / reloc_size) (remaining_count l), refusals.table_full)
    ∷ []
    )

-- "A filled value that doesn't fit answers 18, a field that passes its piece's end 17"
unfoldable pub why_no_field : Lent → ℕ
why_no_field l =
    first (
    (not (all_hold Inside (known_in l) l.pieces l.relocs (piece_count l.pieces)), refusals.ref_overlaps)
    ∷ (not (all_hold Reaches (known_in l) l.pieces l.relocs (piece_count l.pieces)), refusals.ref_out_of_reach)
    ∷ []
    )

-- "a short output, or a base, end or moved offset past 4,294,967,294, 23". The whole's end is past every base and every piece's end.
unfoldable pub why_no_output : Lent → ℕ → ℕ
why_no_output l output =
    let n = piece_count l.pieces in
    first (
    (nat_lt last_place (cursor_at l.pieces n).end, refusals.output_too_small)
    ∷ (nat_lt output (cursor_at l.pieces n).end, refusals.output_too_small)
    ∷ (not (all_labels_move l.pieces l.labels n), refusals.output_too_small)
    ∷ (not (all_hold Moves (known_in l) l.pieces l.relocs n), refusals.output_too_small)
    ∷ []
    )

-- "before 17, 18 and 23"
unfoldable pub why_no_room : Lent → ℕ → ℕ → ℕ → ℕ
why_no_room l output labels relocs = or_else (why_no_table l labels relocs) (or_else (why_no_field l) (why_no_output l output))

-- "in that order"
unfoldable pub why_not_joined : Lent → ℕ → ℕ → ℕ → ℕ
why_not_joined l output labels relocs = or_else (why_unfit l) (or_else (why_undefined l) (why_no_room l output labels relocs))

-- the record of a refused join
abbrev pub no_record : CodeBufferFinalized
no_record = record { arch = 0; len = 0; alignment = 0; layouts = 0; labels = 0; relocs = 0 }

-- the whole's record; join makes no layouts
abbrev pub whole_record : List ℕ → List ℕ → ℕ → CodeBufferFinalized
whole_record pieces relocs n =
    record {
      arch = (piece_at pieces 0).arch;
      len = (cursor_at pieces n).end;
      alignment = greatest_alignment pieces n;
      layouts = 0;
      labels = (cursor_at pieces n).labels;
      relocs = count_remaining pieces relocs n;
    }

-- 0 or the refusal's number, and the whole's record: of zeros where the join is refused
pub record Joined : Type 0 where
  pub refusal : ℕ
  pub code : CodeBufferFinalized

-- the program's answer as such a record
abbrev pub joined_as : Result CodeBufferFinalized Refusal → Joined
joined_as (Ok code) = record { refusal = 0; code = code }
joined_as (Err why) = record { refusal = number_of why; code = no_record }

-- the code, the labels and the relocations that are left in what is lent for them
abbrev pub Left : Type 0
Left = List ℕ × (List ℕ × List ℕ)

-- the whole: its record, its code, its labels and the relocations that remain
unfoldable pub joined : Lent → List ℕ → List ℕ → List ℕ → CodeBufferFinalized × Left
joined l output labels relocs =
    let n = piece_count l.pieces in (
      whole_record l.pieces l.relocs n,
      (
        over output 0 (image (known_in l) l.pieces l.relocs l.code n),
        (over_words labels (labels_joined l.pieces l.labels n), over_words relocs (remaining l.pieces l.relocs n)),
      ),
    )

-- The answer and the three outputs. A refused join leaves them as they were and gives a record of zeros.
unfoldable pub join : Lent → List ℕ → List ℕ → List ℕ → Joined × Left
join l output labels relocs =
    let why = why_not_joined l (length output) (length labels) (length relocs) in
    let whole = joined l output labels relocs in
    pick (why == 0) (record { refusal = 0; code = whole.0 }, whole.1) (record { refusal = why; code = no_record }, (output, (labels, relocs)))
