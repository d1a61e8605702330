-- A finished record's relocations as ELF has them: document 02, Request Two. An entry is an Elf64_Rela of the System V gABI ("Relocation"), 24 bytes,
-- little-endian: r_offset, r_info and r_addend, of 64 bits each; r_info holds the type in its low word (ELF64_R_TYPE) and the symbol in its high one
-- (ELF64_R_SYM). Types have the names of the x86-64 psABI ("Relocation Types") and of Arm's "ELF for the Arm 64-bit Architecture" ("Relocation codes").
use Rattle.std.specs.Prelude.{ℕ, zero, suc, ◌+◌, ◌-◌, ◌*◌, ◌/◌, ◌%◌, Bool, not, ◌&&◌, ◌||◌, List, [], ◌∷◌, ◌++◌, length, ◌==◌, nat_le, nat_lt, slice_index_or}
use Rattle.refusals.specs.Numbers as refusals
use Rattle.seqs.specs.Every.{every, all}
use Rattle.seqs.specs.Pick.{pick, first, or_else, first_of}
use Rattle.words.specs.Words.{word_at, over_words}
use Rattle.fields.specs.Kinds.{arch_x64, arch_a64}
use Rattle.fields.specs.Words64.{plus}
use Rattle.buffer.specs.State.{none, label_target}
use Rattle.buffer.specs.Tables.{most_entries, label_size, reloc_size}
use Rattle.recording.specs.View.{Relocation, reloc_at}
use Rattle.finish.specs.declared.CodeBufferFinalized.{CodeBufferFinalized}
use Rattle.elf.specs.declared.Rela.{Rela}

-- an entry, in words and in bytes
abbrev pub rela_words : ℕ
rela_words = 6

abbrev pub rela_size : ℕ
rela_size = 24

-- no type: R_X86_64_NONE, R_AARCH64_NONE
abbrev pub no_type : ℕ
no_type = 0

-- the type of each kind of relocation, in the order of asmkit's `Reloc`: on X64
abbrev pub x64_types : List ℕ
x64_types =
    10  -- Abs4: R_X86_64_32
    ∷ 1  -- Abs8: R_X86_64_64
    ∷ 2  -- X86PCRel4: R_X86_64_PC32
    ∷ 4  -- X86CallPCRel4: R_X86_64_PLT32
    ∷ 4  -- X86CallPLTRel4: R_X86_64_PLT32
    ∷ 9  -- X86GOTPCRel4: R_X86_64_GOTPCREL
    ∷ 0  -- X86SecRel
    ∷ 0  -- Arm32Call
    ∷ 0  -- Arm64Call
    ∷ 19  -- ElfX86_64TlsGd: R_X86_64_TLSGD
    ∷ 0  -- MachOX86_64Tlv
    ∷ 0  -- MachOAarch64TlsAdrPage21
    ∷ 0  -- MachOAarch64TlsAdrPageOff12
    ∷ 0  -- Aarch64TlsDescAdrPage21
    ∷ 0  -- Aarch64TlsDescLd64Lo12
    ∷ 0  -- Aarch64TlsDescAddLo12
    ∷ 0  -- Aarch64TlsDescCall
    ∷ 0  -- Aarch64AdrGotPage21
    ∷ 0  -- Aarch64Ld64GotLo12Nc
    ∷ 0  -- Aarch64AdrPrelPgHi21
    ∷ 0  -- Aarch64AddAbsLo12Nc
    ∷ 0  -- Aarch64Ld64AbsLo12Nc
    ∷ 0  -- RiscvAbs8
    ∷ 0  -- RiscvCallPlt
    ∷ 0  -- RiscvTlsGdHi20
    ∷ 0  -- RiscvPCRelLo12I
    ∷ 0  -- RiscvGotHi20
    ∷ 0  -- RiscvPCRelHi20
    ∷ []

-- and on AArch64
abbrev pub a64_types : List ℕ
a64_types =
    258  -- Abs4: R_AARCH64_ABS32
    ∷ 257  -- Abs8: R_AARCH64_ABS64
    ∷ 0  -- X86PCRel4
    ∷ 0  -- X86CallPCRel4
    ∷ 0  -- X86CallPLTRel4
    ∷ 0  -- X86GOTPCRel4
    ∷ 0  -- X86SecRel
    ∷ 0  -- Arm32Call
    ∷ 283  -- Arm64Call: R_AARCH64_CALL26
    ∷ 0  -- ElfX86_64TlsGd
    ∷ 0  -- MachOX86_64Tlv
    ∷ 0  -- MachOAarch64TlsAdrPage21
    ∷ 0  -- MachOAarch64TlsAdrPageOff12
    ∷ 0  -- Aarch64TlsDescAdrPage21
    ∷ 0  -- Aarch64TlsDescLd64Lo12
    ∷ 0  -- Aarch64TlsDescAddLo12
    ∷ 0  -- Aarch64TlsDescCall
    ∷ 0  -- Aarch64AdrGotPage21
    ∷ 0  -- Aarch64Ld64GotLo12Nc
    ∷ 275  -- Aarch64AdrPrelPgHi21: R_AARCH64_ADR_PREL_PG_HI21
    ∷ 277  -- Aarch64AddAbsLo12Nc: R_AARCH64_ADD_ABS_LO12_NC
    ∷ 0  -- Aarch64Ld64AbsLo12Nc
    ∷ 0  -- RiscvAbs8
    ∷ 0  -- RiscvCallPlt
    ∷ 0  -- RiscvTlsGdHi20
    ∷ 0  -- RiscvPCRelLo12I
    ∷ 0  -- RiscvGotHi20
    ∷ 0  -- RiscvPCRelHi20
    ∷ []

-- the type of a kind, or none
unfoldable pub elf_type_of : ℕ → ℕ → ℕ
elf_type_of arch kind = pick (arch == arch_x64) (slice_index_or x64_types kind no_type) (pick (arch == arch_a64) (slice_index_or a64_types kind no_type) no_type)

-- the architectures that have types
abbrev pub has_types : ℕ → Bool
has_types arch = arch == arch_x64 || arch == arch_a64

-- a type that stands in one of the two lists
unfoldable pub type_listed : ℕ → Bool
type_listed type = not (type == no_type) && not (every (λ (t : ℕ). not (type == t)) (x64_types ++ a64_types))

-- an entry's six words: r_offset, whose high word is 0; r_info; r_addend
abbrev pub words_of_rela : Rela → List ℕ
words_of_rela e = e.offset ∷ 0 ∷ e.elf_type ∷ e.symbol ∷ e.addend % 4294967296 ∷ e.addend / 4294967296 ∷ []

-- entry i of a table of them
abbrev pub rela_at : List ℕ → ℕ → Rela
rela_at relas i =
    record {
      offset = word_at relas (i * rela_words);
      elf_type = word_at relas (i * rela_words + 2);
      symbol = word_at relas (i * rela_words + 3);
      addend = word_at relas (i * rela_words + 4) + word_at relas (i * rela_words + 5) * 4294967296;
    }

-- the words of f 0, f 1, .. f (n - 1), one after the other
abbrev pub joined : (ℕ → List ℕ) → ℕ → List ℕ
joined f zero = []
joined f (suc n) = joined f n ++ f n

-- Writing. A target is a symbol, or a label that is known, one of the first `count`, and bound.
abbrev pub target_bound : List ℕ → ℕ → ℕ → Bool
target_bound labels count target =
    nat_lt target label_target || nat_lt (target - label_target) count && not (word_at labels (target - label_target) == none)

-- what a target adds to the addend: a label its offset, a symbol nothing
abbrev pub target_offset : List ℕ → ℕ → ℕ
target_offset labels target = pick (nat_lt target label_target) 0 (word_at labels (target - label_target))

-- "A label target becomes the section symbol that the caller names, its offset added to the addend." "Symbol numbers go in unchanged."
unfoldable pub rela_of : ℕ → List ℕ → ℕ → Relocation → Rela
rela_of arch labels section r =
    record {
      offset = r.offset;
      elf_type = elf_type_of arch r.kind;
      symbol = pick (nat_lt r.target label_target) r.target section;
      addend = plus r.addend (target_offset labels r.target);
    }

-- 2^63: a 64-bit two's complement word from here on is negative
abbrev pub first_negative : ℕ
first_negative = 9223372036854775808

-- the sum of such a word and an offset leaves signed 64 bits: the word is not negative, and the sum reaches 2^63
abbrev pub leaves_signed : ℕ → ℕ → Bool
leaves_signed addend offset = nat_lt addend first_negative && nat_le first_negative (addend + offset)

-- 24: a kind outside the architecture's list; 25: the sum leaves signed 64 bits
unfoldable pub why_no_rela : ℕ → List ℕ → Relocation → ℕ
why_no_rela arch labels r =
    first (
    ((elf_type_of arch r.kind == no_type), refusals.no_elf_type)
    ∷ (leaves_signed r.addend (target_offset labels r.target), refusals.addend_overflow)
    ∷ []
    )

-- "per entry the first two": the first refusal of the first n
unfoldable pub why_no_relas : ℕ → List ℕ → List ℕ → ℕ → ℕ
why_no_relas arch labels relocs n = first_of (λ (i : ℕ). why_no_rela arch labels (reloc_at relocs i)) n

-- every target of the first n is a symbol, or a label that is known and bound
unfoldable pub all_targets_bound : List ℕ → ℕ → List ℕ → ℕ → Bool
all_targets_bound labels count relocs n = all (λ (i : ℕ). target_bound labels count (reloc_at relocs i).target) n

-- 1, turned round: no count passes what is lent, and no entry names an unknown or unbound label
unfoldable pub relocs_fit : CodeBufferFinalized → List ℕ → List ℕ → Bool
relocs_fit code labels relocs =
    nat_le code.labels (length labels / label_size)
    && (nat_le code.relocs (length relocs / reloc_size) && all_targets_bound labels code.labels relocs code.relocs)

-- no table is lent more than its limit
abbrev pub within_limits : List ℕ → List ℕ → Bool
within_limits labels relocs = nat_le (length labels / label_size) most_entries && nat_le (length relocs / reloc_size) most_entries

-- 1 and 3; 24: an architecture outside the lists, "without any entry too"
unfoldable pub why_unfit : CodeBufferFinalized → List ℕ → List ℕ → ℕ
why_unfit code labels relocs =
    first (
    (not (relocs_fit code labels relocs), refusals.malformed)
    ∷ (not (within_limits labels relocs), refusals.past_limit)
    ∷ (not (has_types code.arch), refusals.no_elf_type)
    ∷ []
    )

-- these, then entry by entry 24 and 25; 26: the output, of `room` bytes, is short
unfoldable pub why_not_written : CodeBufferFinalized → List ℕ → List ℕ → ℕ → ℕ
why_not_written code labels relocs room =
    or_else (why_unfit code labels relocs)
    (or_else (why_no_relas code.arch labels relocs code.relocs) (first ((nat_lt room (code.relocs * rela_size), refusals.elf_output_too_small) ∷ [])))

-- the words of the first n
abbrev pub words_of_relas : ℕ → List ℕ → ℕ → List ℕ → ℕ → List ℕ
words_of_relas arch labels section relocs n = joined (λ (i : ℕ). words_of_rela (rela_of arch labels section (reloc_at relocs i))) n

-- the answer and the output: "Elf64_Rela entries of 24 bytes, little-endian, in recorded order"
unfoldable pub write_relas : CodeBufferFinalized → List ℕ → List ℕ → ℕ → List ℕ → ℕ × List ℕ
write_relas code labels relocs section output =
    let why = why_not_written code labels relocs (length output) in
    pick (why == 0) (0, over_words output (words_of_relas code.arch labels section relocs code.relocs)) (why, output)

-- Reading: "back to offset, type, symbol and addend", as a table of relocations has them, the type in the place of the kind.
abbrev pub words_of_entry : Rela → List ℕ
words_of_entry e = e.offset ∷ e.elf_type ∷ e.symbol ∷ 0 ∷ e.addend % 4294967296 ∷ e.addend / 4294967296 ∷ []

-- the offset does not pass 32 bits, and the type is listed
unfoldable pub readable : List ℕ → ℕ → Bool
readable relas i = word_at relas (i * rela_words + 1) == 0 && type_listed (rela_at relas i).elf_type

-- 1, turned round: "a length that is no multiple of 24, an offset past 32 bits or a type in neither list"
unfoldable pub relas_fit : List ℕ → Bool
relas_fit relas = length relas % rela_size == 0 && all (readable relas) (length relas / rela_size)

-- 1; 3: the table is lent more than a limit; 11: the table, of `room` entries, is short
unfoldable pub why_not_read : List ℕ → ℕ → ℕ
why_not_read relas room =
    first (
    (not (relas_fit relas), refusals.malformed)
    ∷ (nat_lt most_entries room, refusals.past_limit)
    ∷ (nat_lt room (length relas / rela_size), refusals.table_full)
    ∷ []
    )

-- the words of the first n entries of the table
abbrev pub words_of_entries : List ℕ → ℕ → List ℕ
words_of_entries relas n = joined (λ (i : ℕ). words_of_entry (rela_at relas i)) n

-- the answer and the table
unfoldable pub read_relas : List ℕ → List ℕ → ℕ × List ℕ
read_relas relas table =
    let why = why_not_read relas (length table / reloc_size) in
    pick (why == 0) (0, over_words table (words_of_entries relas (length relas / rela_size))) (why, table)
