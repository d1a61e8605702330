-- What a field means by the manuals, and what its label demands (demand 2).
use Rattle.std.specs.Prelude.{◌≡◌, ℕ, ◌+◌, ◌%◌, Bool, ◌&&◌, ◌||◌, nat_le, nat_lt}
use Rattle.fields.specs.Bits.{bits}
use Rattle.fields.specs.Reach.{page}
use Rattle.fields.specs.Intel.{rel8, rel32}
use Rattle.fields.specs.Arm.{b, cbz, tbz, ldr_literal, adr, adrp, add_immediate}
use Rattle.fields.specs.declared.LabelUse.{LabelUse}
use Rattle.fields.specs.declared.LabelUse.TheVariants.{
  X86JmpRel32,
  X86BranchRel8,
  A64Branch14,
  A64Branch19,
  A64Branch26,
  A64Ldr19,
  A64Adr21,
  A64Adrp21,
  A64AddAbsLo12,
}

-- what a processor makes of the field at address `at` that holds the number `field`
abbrev pub meaning : LabelUse → ℕ → ℕ → ℕ
meaning X86JmpRel32 at field = rel32 at field
meaning X86BranchRel8 at field = rel8 at field
meaning A64Branch14 at field = tbz at field
meaning A64Branch19 at field = cbz at field
meaning A64Branch26 at field = b at field
meaning A64Ldr19 at field = ldr_literal at field
meaning A64Adr21 at field = adr at field
meaning A64Adrp21 at field = adrp at field
meaning A64AddAbsLo12 at field = add_immediate field

-- what a target's address demands of it: the address itself, of ADRP its page, of ADD its place in the page
abbrev pub demanded : LabelUse → ℕ → ℕ
demanded X86JmpRel32 address = address
demanded X86BranchRel8 address = address
demanded A64Branch14 address = address
demanded A64Branch19 address = address
demanded A64Branch26 address = address
demanded A64Ldr19 address = address
demanded A64Adr21 address = address
demanded A64Adrp21 address = page address
demanded A64AddAbsLo12 address = address % 4096

-- some value of the field at `offset` means what `target` demands
abbrev pub Encodable : LabelUse → ℕ → ℕ → Type 0
Encodable k offset target = (field : ℕ) × (meaning k offset field ≡ demanded k target)

-- what the code is loaded on a multiple of: for the page kinds, of 4,096
abbrev pub load_multiple : LabelUse → ℕ
load_multiple X86JmpRel32 = 1
load_multiple X86BranchRel8 = 1
load_multiple A64Branch14 = 1
load_multiple A64Branch19 = 1
load_multiple A64Branch26 = 1
load_multiple A64Ldr19 = 1
load_multiple A64Adr21 = 1
load_multiple A64Adrp21 = 4096
load_multiple A64AddAbsLo12 = 4096

-- what a word is to hold beside its field: ADD shifts its immediate where sh, bit 22, is set, and patching leaves sh as it is
abbrev pub Clear : LabelUse → ℕ → Type 0
Clear X86JmpRel32 word = Unit {0}
Clear X86BranchRel8 word = Unit {0}
Clear A64Branch14 word = Unit {0}
Clear A64Branch19 word = Unit {0}
Clear A64Branch26 word = Unit {0}
Clear A64Ldr19 word = Unit {0}
Clear A64Adr21 word = Unit {0}
Clear A64Adrp21 word = Unit {0}
Clear A64AddAbsLo12 word = bits 22 22 word ≡ 0

-- bit i is one of the `width` bits from bit `position` on
abbrev pub covers : ℕ → ℕ → ℕ → Bool
covers position width i = nat_le position i && nat_lt i (position + width)

-- the bits of the word that belong to the field
abbrev pub in_field : LabelUse → ℕ → Bool
in_field X86JmpRel32 i = covers 0 32 i
in_field X86BranchRel8 i = covers 0 8 i
in_field A64Branch14 i = covers 5 14 i
in_field A64Branch19 i = covers 5 19 i
in_field A64Branch26 i = covers 0 26 i
in_field A64Ldr19 i = covers 5 19 i
in_field A64Adr21 i = covers 5 19 i || covers 29 2 i
in_field A64Adrp21 i = covers 5 19 i || covers 29 2 i
in_field A64AddAbsLo12 i = covers 10 12 i
