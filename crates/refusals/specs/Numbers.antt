-- The numbers by which calls refuse: 1 to 23 in the order of document 01's list, then those of document 02's requests; 0 is none.
use Rattle.std.specs.Prelude.{ℕ}

-- a sheet, an argument, a count or a table's entry that breaks its form
abbrev pub malformed : ℕ
malformed = 1

-- start names an architecture other than X86, X64 and AArch64
abbrev pub unknown_arch : ℕ
unknown_arch = 2

-- a call is lent more than a limit
abbrev pub past_limit : ℕ
past_limit = 3

-- the recording has finished
abbrev pub already_finished : ℕ
already_finished = 4

-- an alignment is no power of two, or exceeds 4,096
abbrev pub bad_alignment : ℕ
bad_alignment = 5

-- a use has the code that has no field
abbrev pub unsupported_use : ℕ
unsupported_use = 6

-- a use, ref or relocation has a kind foreign to the architecture
abbrev pub foreign_kind : ℕ
foreign_kind = 7

-- a label, constant or symbol number is unknown
abbrev pub unknown_number : ℕ
unknown_number = 8

-- the label is bound already
abbrev pub already_bound : ℕ
already_bound = 9

-- a jump, a relocation's offset or a constant that no entry may hold
abbrev pub bad_entry : ℕ
bad_entry = 10

-- a table that the call must extend is full
abbrev pub table_full : ℕ
table_full = 11

-- bytes or padding pass the lent code's end
abbrev pub code_full : ℕ
code_full = 12

-- a pooled constant's label was bound by the caller
abbrev pub pool_label_bound : ℕ
pool_label_bound = 13

-- code with pool exceeds the limit
abbrev pub pool_too_large : ℕ
pool_too_large = 14

-- a use, label relocation, ref or jump names an unbound label
abbrev pub unbound_label : ℕ
unbound_label = 15

-- with a jump, the segment table is short
abbrev pub too_few_segments : ℕ
too_few_segments = 16

-- with a jump, a ref's field passes the pooled code's end, or overlaps an event; joining, a field that is filled passes its piece's end
abbrev pub ref_overlaps : ℕ
ref_overlaps = 17

-- with a jump, a ref can't reach its label plus addend; joining, a field can't reach its symbol plus addend
abbrev pub ref_out_of_reach : ℕ
ref_out_of_reach = 18

-- without a jump, a use's field passes the pooled code's end
abbrev pub use_past_end : ℕ
use_past_end = 19

-- without a jump, an AArch64 branch can't reach
abbrev pub branch_out_of_reach : ℕ
branch_out_of_reach = 20

-- another use can't reach a label at or after it
abbrev pub label_too_far_ahead : ℕ
label_too_far_ahead = 21

-- another use can't reach a label before it
abbrev pub label_too_far_back : ℕ
label_too_far_back = 22

-- the finished code exceeds the lent output; joining, the whole does, or an offset in it exceeds 32 bits
abbrev pub output_too_small : ℕ
output_too_small = 23

-- ELF has no type here for a relocation's kind, or none for the architecture
abbrev pub no_elf_type : ℕ
no_elf_type = 24

-- a relocation's addend plus its label's offset leaves signed 64 bits
abbrev pub addend_overflow : ℕ
addend_overflow = 25

-- the entries of ELF exceed the lent output
abbrev pub elf_output_too_small : ℕ
elf_output_too_small = 26

-- pieces that are to be joined have different architectures
abbrev pub architectures_differ : ℕ
architectures_differ = 27

-- two definitions have one symbol
abbrev pub symbol_defined_twice : ℕ
symbol_defined_twice = 28

-- a field is to be filled with a symbol that nothing defines, or an unknown or unbound label
abbrev pub symbol_undefined : ℕ
symbol_undefined = 29

-- of what recording calls refuse by, the numbers from here on are recorded, but for a bind's
abbrev pub first_recorded : ℕ
first_recorded = unsupported_use
