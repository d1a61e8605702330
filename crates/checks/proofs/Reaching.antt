-- The sizes of fields.
use mathlib.Core.Path.{◌≡◌}
use Prim.Native.Nat.{ℕ, ◌≤◌}
use native.Mathlib.Omega.{arith}
use Rattle.fields.specs.Kinds.{Decoded, Use, Unsupported, Unknown, decoded, patch_size}
use Rattle.fields.specs.declared.LabelUse.{LabelUse}
use Rattle.fields.specs.declared.LabelUse.TheVariants.{
  X86JmpRel32,
  X86BranchRel8,
  A64Branch14,
  A64Branch19,
  A64Branch26,
  A64Ldr19,
  A64Adr21,
  A64Adrp21,
  A64AddAbsLo12,
}
use Rattle.fields.specs.Kinds.{size_of}

-- no field has more than four bytes
patch_small : (k : LabelUse) → patch_size k ≤ 4
patch_small X86JmpRel32 = omega arith
patch_small X86BranchRel8 = omega arith
patch_small A64Branch14 = omega arith
patch_small A64Branch19 = omega arith
patch_small A64Branch26 = omega arith
patch_small A64Ldr19 = omega arith
patch_small A64Adr21 = omega arith
patch_small A64Adrp21 = omega arith
patch_small A64AddAbsLo12 = omega arith

size_small : (d : Decoded) → size_of d ≤ 4
size_small (Use k) = patch_small k
size_small Unsupported = omega arith
size_small Unknown = omega arith

pub sized : (size code : ℕ) → size ≡ size_of (decoded code) → (size ≡ size_of (decoded code)) × (size ≤ 4)
sized size code e = (e, rw e (size_small (decoded code)))
