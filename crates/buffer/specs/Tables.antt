-- The tables' numbers: document 01's limits, and how many words and bytes an entry of each table has (relax has those of events).
use Rattle.std.specs.Prelude.{ℕ}

-- the limits: entries of a table, bytes of code, the last offset in it, bytes of a constant, the largest alignment
abbrev pub most_entries : ℕ
most_entries = 65536

abbrev pub most_code : ℕ
most_code = 16777216

abbrev pub last_offset : ℕ
last_offset = 16777215

abbrev pub most_constant : ℕ
most_constant = 64

abbrev pub most_alignment : ℕ
most_alignment = 4096

-- the most bytes that an alignment may spend where nothing else is said (document 02, Request Seven)
abbrev pub default_most : ℕ
default_most = 4095

-- the most entries that may be open: uses, refs, events and relocations are 65,536 each
abbrev pub most_open : ℕ
most_open = 262144

-- the last kind of relocation, in the order of asmkit's `Reloc`
abbrev pub last_reloc : ℕ
last_reloc = 27

-- a label: its offset
abbrev pub label_size : ℕ
label_size = 4

-- a use: offset, label, code
abbrev pub use_words : ℕ
use_words = 3

abbrev pub use_size : ℕ
use_size = 12

-- a ref: offset, label, code, addend
abbrev pub ref_words : ℕ
ref_words = 4

abbrev pub ref_size : ℕ
ref_size = 16

-- a constant: size and label, which come first, and 64 bytes
abbrev pub constant_words : ℕ
constant_words = 18

abbrev pub constant_size : ℕ
constant_size = 72

abbrev pub constant_head : ℕ
constant_head = 8

-- an asking: the constant's number
abbrev pub asked_size : ℕ
asked_size = 4

-- a relocation: offset, kind, target, 0, and the addend's two halves, low first
abbrev pub reloc_words : ℕ
reloc_words = 6

abbrev pub reloc_size : ℕ
reloc_size = 24
