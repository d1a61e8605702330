-- Worked joins with the numbers written out: a table, and a theorem.
use Rattle.std.proofs.Common.{◌≡◌, ℕ, ◌+◌, List, [], ◌∷◌, ◌++◌, map, replicate, refl}
use Rattle.refusals.specs.Numbers as refusals
use Rattle.seqs.specs.Counting.{how_many}
use Rattle.seqs.specs.Every.{all}
use Rattle.seqs.specs.Over.{over}
use Rattle.seqs.specs.Pick.{pick, first_of}
use Rattle.words.specs.Words.{word_at, bytes_of_all}
use Rattle.encoder.specs.Padding.{padding_length}
use Rattle.fields.specs.Kinds.{arch_x86, arch_x64}
use Rattle.fields.specs.Words64.{range}
use Rattle.buffer.specs.State.{none, label_target}
use Rattle.finish.specs.declared.CodeBufferFinalized.{CodeBufferFinalized}
use Rattle.join.specs.Pieces.{piece_at, cursor_at, pieces_fit, within_limits, same_arch, greatest_alignment}
use Rattle.join.specs.Symbols.{find_in, find, find_before, new_in, defined_once}
use Rattle.join.specs.Join.{
  Joined,
  reloc_of,
  holds,
  relocs_hold,
  all_hold,
  labels_move,
  all_labels_move,
  remaining_in,
  remaining,
  count_remaining_in,
  count_remaining,
  labels_joined,
  filled_with,
  image,
  why_unfit,
  why_undefined,
  why_no_table,
  why_no_field,
  why_no_output,
  why_no_room,
  why_not_joined,
  Left,
  joined,
  join,
}

-- a piece's words: architecture, length, alignment, labels, relocations and definitions
abbrev piece_of : ℕ → ℕ → ℕ → ℕ → ℕ → ℕ → List ℕ
piece_of arch len alignment labels relocs definitions = arch ∷ len ∷ alignment ∷ 7 ∷ labels ∷ relocs ∷ definitions ∷ []

-- a call of symbol 7, less 4, at 1
abbrev call : List ℕ
call = 1 ∷ 3 ∷ 7 ∷ 0 ∷ 4294967292 ∷ 4294967295 ∷ []

-- E8 and its field, and C3
abbrev caller : List ℕ
caller = 232 ∷ 0 ∷ 0 ∷ 0 ∷ 0 ∷ []

abbrev callee : List ℕ
callee = 195 ∷ []

-- What is joined, into outputs of so many bytes, words and words, all of them 170; the answer, the record's words and what is left.
record Case : Type 0 where
  pieces : List ℕ
  code : List ℕ
  labels : List ℕ
  relocs : List ℕ
  definitions : List ℕ
  output : ℕ
  joined_labels : ℕ
  joined_relocs : ℕ

abbrev whole_of : ℕ → ℕ → ℕ → ℕ → ℕ → CodeBufferFinalized
whole_of arch len alignment labels relocs = record { arch = arch; len = len; alignment = alignment; layouts = 0; labels = labels; relocs = relocs }

abbrev refused_with : ℕ → Case → Joined × Left
refused_with why c = (
  record { refusal = why; code = record { arch = 0; len = 0; alignment = 0; layouts = 0; labels = 0; relocs = 0 } },
  (replicate c.output 170, (replicate c.joined_labels 170, replicate c.joined_relocs 170)),
)

abbrev answered : CodeBufferFinalized → List ℕ → List ℕ → List ℕ → Joined × Left
answered code output labels relocs = (record { refusal = 0; code = code }, (output, (labels, relocs)))

abbrev case_of : List ℕ → List ℕ → List ℕ → List ℕ → List ℕ → ℕ → ℕ → ℕ → Case
case_of pieces code labels relocs definitions output joined_labels joined_relocs =
    record {
      pieces = bytes_of_all pieces;
      code = code;
      labels = bytes_of_all labels;
      relocs = bytes_of_all relocs;
      definitions = bytes_of_all definitions;
      output = output;
      joined_labels = joined_labels;
      joined_relocs = joined_relocs;
    }

-- a caller and its callee, whose label 0 defines symbol 7; two bytes more are lent
abbrev called : Case
called = case_of (piece_of arch_x64 5 32 0 1 0 ++ piece_of arch_x64 1 32 1 0 1) (caller ++ callee) (0 ∷ []) call (7 ∷ 0 ∷ []) 35 5 0

-- a caller in the second piece, whose label 1, at 6, defines the symbol: its base is 32, so that the symbol's place is 38 and the field, at 33, holds 1
abbrev calls_on : Case
calls_on = case_of (piece_of arch_x64 1 32 1 0 0 ++ piece_of arch_x64 7 32 2 1 1) (callee ++ (caller ++ (144 ∷ 195 ∷ []))) (0 ∷ 5 ∷ 6 ∷ []) call (7 ∷ 1 ∷ []) 39 12 0

-- the same with the symbol defined twice, by a label that is unknown, and by one that is not bound
abbrev twice : Case
twice = case_of (piece_of arch_x64 5 32 0 1 0 ++ piece_of arch_x64 1 32 1 0 2) (caller ++ callee) (0 ∷ []) call (7 ∷ 0 ∷ 7 ∷ 9 ∷ []) 33 4 0

abbrev unknown : Case
unknown = case_of (piece_of arch_x64 5 32 0 1 0 ++ piece_of arch_x64 1 32 1 0 1) (caller ++ callee) (0 ∷ []) call (7 ∷ 1 ∷ []) 33 4 0

abbrev unbound : Case
unbound = case_of (piece_of arch_x64 5 32 0 1 0 ++ piece_of arch_x64 1 32 1 0 1) (caller ++ callee) (none ∷ []) call (7 ∷ 0 ∷ []) 33 4 0

-- a definition by an unknown label that nobody needs
abbrev unneeded : Case
unneeded = case_of (piece_of arch_x64 1 32 0 0 1) callee [] [] (7 ∷ 9 ∷ []) 1 0 0

-- X86 and X64, and a symbol that is defined twice
abbrev mixed : Case
mixed = case_of (piece_of arch_x86 1 32 1 0 1 ++ piece_of arch_x64 1 64 1 0 1) (callee ++ callee) (0 ∷ 0 ∷ []) [] (7 ∷ 0 ∷ 7 ∷ 0 ∷ []) 65 8 0

-- two pieces of a byte, one on a multiple of 64; a relocation of the second piece to its own label remains
abbrev moved : Case
moved = case_of (piece_of arch_x64 1 32 1 0 0 ++ piece_of arch_x64 1 64 1 1 0) (callee ++ callee) (none ∷ 1 ∷ []) (0 ∷ 1 ∷ label_target ∷ 9 ∷ 5 ∷ 0 ∷ []) [] 65 8 24

-- an empty piece at the end: the gap before it belongs to the whole
abbrev empty : Case
empty = case_of (piece_of arch_x64 1 32 0 0 0 ++ piece_of arch_x64 0 32 0 0 0) callee [] [] [] 32 0 0

-- a field that passes its piece's end by a byte, and an output that is short
abbrev outside : Case
outside = case_of (piece_of arch_x64 4 32 0 1 0 ++ piece_of arch_x64 1 32 1 0 1) (caller ++ callee) (0 ∷ []) call (7 ∷ 0 ∷ []) 0 4 0

-- two fields that overlap by two bytes, both of symbol 7 at 0: the later stands over the earlier
abbrev overlapping : Case
overlapping =
    case_of (piece_of arch_x64 6 32 1 2 1) (replicate 6 17) (0 ∷ []) ((0 ∷ 2 ∷ 7 ∷ 0 ∷ 1 ∷ 0 ∷ []) ++ (2 ∷ 2 ∷ 7 ∷ 0 ∷ 1 ∷ 0 ∷ [])) (7 ∷ 0 ∷ []) 6 4 0

-- no piece, and an alignment of 16
abbrev nothing : Case
nothing = case_of [] [] [] [] [] 0 0 0

abbrev narrow : Case
narrow = case_of (piece_of arch_x64 1 16 0 0 0) callee [] [] [] 1 0 0

abbrev cases : List (Case × (Joined × Left))
cases =
    (called, answered (whole_of arch_x64 33 32 1 0) ((232 ∷ 27 ∷ 0 ∷ 0 ∷ 0 ∷ []) ++ (replicate 27 0 ++ (callee ++ replicate 2 170))) (bytes_of_all (32 ∷ []) ++ (170 ∷ [])) [])
    ∷ (
      calls_on,
      answered (whole_of arch_x64 39 32 3 0) (callee ++ (replicate 31 0 ++ (232 ∷ 1 ∷ 0 ∷ 0 ∷ 0 ∷ 144 ∷ 195 ∷ []))) (bytes_of_all (0 ∷ 37 ∷ 38 ∷ [])) [],
    )
    ∷ (twice, refused_with refusals.symbol_defined_twice twice)
    ∷ (unknown, refused_with refusals.symbol_undefined unknown)
    ∷ (unbound, refused_with refusals.symbol_undefined unbound)
    ∷ (unneeded, answered (whole_of arch_x64 1 32 0 0) callee [] [])
    ∷ (mixed, refused_with refusals.architectures_differ mixed)
    ∷ (
      moved,
      answered (whole_of arch_x64 65 64 2 1) (callee ++ (replicate 63 0 ++ callee)) (bytes_of_all (none ∷ 65 ∷ [])) (bytes_of_all (64 ∷ 1 ∷ (label_target + 1) ∷ 0 ∷ 5 ∷ 0 ∷ [])),
    )
    ∷ (empty, answered (whole_of arch_x64 32 32 0 0) (callee ++ replicate 31 0) [] [])
    ∷ (outside, refused_with refusals.ref_overlaps outside)
    ∷ (overlapping, answered (whole_of arch_x64 6 32 1 0) (1 ∷ 0 ∷ 255 ∷ 255 ∷ 255 ∷ 255 ∷ []) (bytes_of_all (0 ∷ [])) [])
    ∷ (nothing, refused_with refusals.malformed nothing)
    ∷ (narrow, refused_with refusals.malformed narrow)
    ∷ []

-- each is answered so
abbrev answer : Case → Joined × Left
answer c =
    join (record { pieces = c.pieces; code = c.code; labels = c.labels; relocs = c.relocs; definitions = c.definitions })
    (replicate c.output 170)
    (replicate c.joined_labels 170)
    (replicate c.joined_relocs 170)

cases_hold : map (λ (c : Case × (Joined × Left)). answer c.0) cases ≡ map (λ (c : Case × (Joined × Left)). c.1) cases
unfolding join joined why_not_joined why_unfit why_undefined why_no_room why_no_table why_no_field why_no_output piece_at cursor_at pieces_fit within_limits same_arch greatest_alignment find_in find find_before new_in defined_once reloc_of holds relocs_hold all_hold labels_move all_labels_move remaining_in remaining count_remaining_in count_remaining labels_joined filled_with image word_at over pick all first_of how_many range padding_length
cases_hold = refl
