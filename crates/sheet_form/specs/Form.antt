-- The form of a sheet: document 01, "A sheet of calls"; document 02, Request Seven. "A sheet is a count n (word), n kind bytes, then n arguments of
-- four words."
use Rattle.std.specs.Prelude.{Bool, true, ◌&&◌, ◌||◌, List, [], ◌∷◌, ℕ, suc, ◌+◌, ◌*◌, eqb, leb, length, get_or, take, drop}
use Rattle.seqs.specs.Every.{every}
use Rattle.seqs.specs.Pick.{pick}
use Rattle.words.specs.Words.{word_at}
use Rattle.fields.specs.Kinds.{last_code}
use Rattle.buffer.specs.Tables.{last_reloc}

-- the kinds of call, in the order of document 01's list
abbrev pub bytes_call : ℕ
bytes_call = 1

abbrev pub new_label_call : ℕ
new_label_call = 2

abbrev pub bind_call : ℕ
bind_call = 3

abbrev pub align_call : ℕ
align_call = 4

abbrev pub use_call : ℕ
use_call = 5

abbrev pub ref_call : ℕ
ref_call = 6

abbrev pub jump_call : ℕ
jump_call = 7

abbrev pub constant_call : ℕ
constant_call = 8

abbrev pub constant_label_call : ℕ
constant_label_call = 9

abbrev pub relocation_call : ℕ
relocation_call = 10

-- the bytes of an argument, and of what a count in one may count
abbrev pub argument_size : ℕ
argument_size = 16

abbrev pub most_bytes : ℕ
most_bytes = 12

-- its length is that of the calls it counts: a word, and for each call a byte and an argument
unfoldable pub is_whole : List ℕ → Bool
is_whole sheet = leb 4 (length sheet) && eqb (length sheet) (4 + 17 * word_at sheet 0)

abbrev pub kinds_of : List ℕ → List ℕ
kinds_of sheet = take (word_at sheet 0) (drop 4 sheet)

-- the arguments
abbrev pub arguments_of : List ℕ → List ℕ
arguments_of sheet = drop (4 + word_at sheet 0) sheet

-- bytes and constants carry a count and as many bytes
abbrev pub is_counted : ℕ → Bool
is_counted kind = eqb kind bytes_call || eqb kind constant_call

-- uses and refs carry a code
abbrev pub has_code : ℕ → Bool
has_code kind = eqb kind use_call || eqb kind ref_call

-- "1 bytes (count 0–12, the bytes)", "8 constant (as kind 1)"; the code of a use or ref is at most 16; "10 relocation (offset, kind 0–27 ..)"
unfoldable pub in_range : ℕ → List ℕ → Bool
in_range kind arguments =
    pick (is_counted kind) (leb (word_at arguments 0) most_bytes)
    (pick (has_code kind) (leb (word_at arguments 2) last_code)
    (pick (eqb kind relocation_call) (leb (word_at arguments 1) last_reloc) true))

-- how many bytes of an argument each kind from 0 on uses: four for each of its words
abbrev pub used_bytes : List ℕ
used_bytes = 0 ∷ 4 ∷ 0 ∷ 4 ∷ 8 ∷ 12 ∷ 16 ∷ 16 ∷ 4 ∷ 4 ∷ 16 ∷ []

-- and the bytes that a count counts
unfoldable pub used : ℕ → List ℕ → ℕ
used kind arguments = get_or used_bytes kind 0 + pick (is_counted kind) (word_at arguments 0) 0

-- every byte is 0
abbrev pub is_clear : List ℕ → Bool
is_clear bytes = every (λ (x : ℕ). eqb x 0) bytes

-- a call's form: its kind is 1 to 10, what has a range is in it, and "unused words and bytes are 0"
unfoldable pub is_formed : ℕ → List ℕ → Bool
is_formed kind arguments = leb bytes_call kind && leb kind relocation_call && (in_range kind arguments && is_clear (drop (used kind arguments) arguments))

-- the index of the first call whose form is broken; the number of calls where none is
unfoldable pub first_broken : List ℕ → List ℕ → ℕ
first_broken [] arguments = 0
first_broken (kind ∷ kinds) arguments = pick (is_formed kind (take argument_size arguments)) (suc (first_broken kinds (drop argument_size arguments))) 0
