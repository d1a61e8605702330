-- The kinds of field that name a label: document 01, "fields". Codes follow the order of asmkit's enum `LabelUse`.
use Rattle.std.specs.Prelude.{ℕ, Bool, true, false, ◌||◌, List, [], ◌∷◌, ◌==◌, Result, Ok, Err, slice_index_or}
use Rattle.fields.specs.declared.LabelUse.{LabelUse}
use Rattle.fields.specs.declared.LabelUse.TheVariants.{
  X86JmpRel32,
  X86BranchRel8,
  A64Branch14,
  A64Branch19,
  A64Branch26,
  A64Ldr19,
  A64Adr21,
  A64Adrp21,
  A64AddAbsLo12,
}
use Rattle.fields.specs.declared.FieldInfo.{FieldInfo}
use Rattle.fields.specs.declared.NoField.{NoField}
use Rattle.fields.specs.declared.NoField.TheVariants as no_field

-- The nine kinds. `code`; `size` in bytes; `x86`: of X86 and X64, else of AArch64; `branch`: codes 9, 10 and 11; `paged`: counts 4,096-byte pages;
-- `words`: takes multiples of 4 alone; the distance, counted from `from` bytes after the field's first one, lies in -low..high.
-- Distance d is label minus field offset: code 0 needs d - 4 in signed 32 bits, 1 needs d - 1 in -128..127; 9, 10, 12 and 11 need multiples of 4 from
-- -2^15, -2^20, -2^20, -2^27 to 4 below the positive power; 13 needs -2^20..2^20 - 1; 14 and 16, which compare pages (Reach), -2^32..2^32 - 1.
abbrev pub info : LabelUse → FieldInfo
info X86JmpRel32 = record { code = 0; size = 4; x86 = true; branch = false; paged = false; words = false; from = 4; low = 2147483648; high = 2147483647 }
info X86BranchRel8 = record { code = 1; size = 1; x86 = true; branch = false; paged = false; words = false; from = 1; low = 128; high = 127 }
info A64Branch14 = record { code = 9; size = 4; x86 = false; branch = true; paged = false; words = true; from = 0; low = 32768; high = 32764 }
info A64Branch19 = record { code = 10; size = 4; x86 = false; branch = true; paged = false; words = true; from = 0; low = 1048576; high = 1048572 }
info A64Branch26 = record { code = 11; size = 4; x86 = false; branch = true; paged = false; words = true; from = 0; low = 134217728; high = 134217724 }
info A64Ldr19 = record { code = 12; size = 4; x86 = false; branch = false; paged = false; words = true; from = 0; low = 1048576; high = 1048572 }
info A64Adr21 = record { code = 13; size = 4; x86 = false; branch = false; paged = false; words = false; from = 0; low = 1048576; high = 1048575 }
info A64Adrp21 = record { code = 14; size = 4; x86 = false; branch = false; paged = true; words = false; from = 0; low = 4294967296; high = 4294967295 }
info A64AddAbsLo12 = record { code = 16; size = 4; x86 = false; branch = false; paged = true; words = false; from = 0; low = 4294967296; high = 4294967295 }

abbrev pub code_of : LabelUse → ℕ
code_of k = (info k).code

-- a field's size in bytes
abbrev pub patch_size : LabelUse → ℕ
patch_size k = (info k).size

-- the architectures, by document 01's numbers
abbrev pub arch_x86 : ℕ
arch_x86 = 1

abbrev pub arch_x64 : ℕ
arch_x64 = 2

abbrev pub arch_a64 : ℕ
arch_a64 = 6

-- of X86 and X64, or of AArch64
abbrev pub is_arch : Bool → ℕ → Bool
is_arch true arch = arch == arch_x86 || arch == arch_x64
is_arch false arch = arch == arch_a64

abbrev pub supports_arch : LabelUse → ℕ → Bool
supports_arch k arch = is_arch (info k).x86 arch

-- what a code of asmkit's enum stands for here
pub data Decoded : Type 0 where
  Use : LabelUse → Decoded
  -- no architecture here has such a field
  Unsupported : Decoded
  -- of no kind
  Unknown : Decoded

-- what the conversion of a code gives
abbrev pub decoded_of : Result LabelUse NoField → Decoded
decoded_of (Ok kind) = Use kind
decoded_of (Err no_field.Unsupported) = Unsupported
decoded_of (Err no_field.Unknown) = Unknown

-- 2 to 8 are the RISC-V kinds, 15 is A64Ldr12
abbrev pub codes : List Decoded
codes =
    Use X86JmpRel32
    ∷ Use X86BranchRel8
    ∷ Unsupported
    ∷ Unsupported
    ∷ Unsupported
    ∷ Unsupported
    ∷ Unsupported
    ∷ Unsupported
    ∷ Unsupported
    ∷ Use A64Branch14
    ∷ Use A64Branch19
    ∷ Use A64Branch26
    ∷ Use A64Ldr19
    ∷ Use A64Adr21
    ∷ Use A64Adrp21
    ∷ Unsupported
    ∷ Use A64AddAbsLo12
    ∷ []

-- the code of a use that is not supported, and the last code
abbrev pub unsupported_code : ℕ
unsupported_code = 15

abbrev pub last_code : ℕ
last_code = 16

unfoldable pub decoded : ℕ → Decoded
decoded code = slice_index_or codes code Unknown

-- the size of the field that a code stands for; 0 where it stands for none
abbrev pub size_of : Decoded → ℕ
size_of (Use k) = patch_size k
size_of Unsupported = 0
size_of Unknown = 0
