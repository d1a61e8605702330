-- What is written into a field: document 01, "fields", with document 02, Request Four; asmkit's `patch_with_addend` and `patch`.
use Rattle.std.specs.Prelude.{ℕ, ◌/◌, ◌%◌, cond, List, length, take, ◌==◌}
use Rattle.words.specs.Words.{word_at, bytes_of}
use Rattle.fields.specs.Words64.{plus, minus, sign_extend}
use Rattle.fields.specs.Bits.{insert_bits}
use Rattle.fields.specs.Kinds.{code_of, patch_size}
use Rattle.fields.specs.declared.LabelUse.{LabelUse}
use Rattle.fields.specs.declared.LabelUse.TheVariants.{
  X86JmpRel32,
  X86BranchRel8,
  A64Branch14,
  A64Branch19,
  A64Branch26,
  A64Ldr19,
  A64Adr21,
  A64Adrp21,
  A64AddAbsLo12,
}

-- word with value as immhi:immlo, bits 23:5 and 30:29
abbrev pub insert_adr : ℕ → ℕ → ℕ
insert_adr word value = insert_bits 5 19 (insert_bits 29 2 word value) (value / 4)

-- The number that a field at `offset`, which holds `word`, gets where it names `target`. x86 counts from the field's end; branches and
-- loads count in words of 4 bytes, ADRP in pages of 4,096. ADD takes the target's low 12 bits, whatever its field holds (Request Four).
abbrev pub patched_word : LabelUse → ℕ → ℕ → ℕ → ℕ
patched_word X86JmpRel32 word offset target = minus (minus target offset) 4 % 4294967296
patched_word X86BranchRel8 word offset target = minus (minus target offset) 1 % 256
patched_word A64Branch14 word offset target = insert_bits 5 14 word (minus target offset / 4)
patched_word A64Branch19 word offset target = insert_bits 5 19 word (minus target offset / 4)
patched_word A64Branch26 word offset target = insert_bits 0 26 word (minus target offset / 4)
patched_word A64Ldr19 word offset target = insert_bits 5 19 word (minus target offset / 4)
patched_word A64Adr21 word offset target = insert_adr word (minus target offset)
patched_word A64Adrp21 word offset target = insert_adr word (minus (target / 4096) (offset / 4096))
patched_word A64AddAbsLo12 word offset target = insert_bits 10 12 word target

-- The bytes of a field at `offset` where it names `target`. Bytes that are no such field stay.
unfoldable pub patched : LabelUse → ℕ → ℕ → List ℕ → List ℕ
patched k offset target bytes =
    cond (length bytes == patch_size k) (take (patch_size k) (bytes_of (patched_word k (word_at bytes 0) offset target))) bytes

-- A use of code 0 adds the value already in its field; the others ignore it.
unfoldable pub held_addend : LabelUse → List ℕ → ℕ
held_addend k bytes = cond (code_of k == 0) (sign_extend 32 (word_at bytes 0)) 0

-- a use's field where it names a label
abbrev pub patched_use : LabelUse → ℕ → ℕ → List ℕ → List ℕ
patched_use k offset label bytes = patched k offset (plus label (held_addend k bytes)) bytes
