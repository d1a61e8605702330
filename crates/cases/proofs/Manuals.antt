-- Readings of the manuals beside those that are claimed of finished code: a branch of a definition in specs/ that nothing else exercises has its case here.
use mathlib.Core.Path.{◌≡◌, refl}
use mathlib.Core.Logic.{◌≢◌}
use mathlib.Core.List.{[], ◌∷◌}
use Rattle.encoder.specs.Intel.{nop_length}
use Rattle.fields.specs.declared.LabelUse.{LabelUse}
use Rattle.fields.specs.declared.LabelUse.TheVariants.{
  X86JmpRel32,
  X86BranchRel8,
  A64Branch14,
  A64Branch19,
  A64Branch26,
  A64Ldr19,
  A64Adr21,
  A64Adrp21,
  A64AddAbsLo12,
}
use Rattle.fields.specs.Kinds.{code_of}
use Rattle.fields.specs.Arm.{add_immediate}
use Rattle.fields.specs.Meaning.{load_multiple}

-- case J's ADD X0, X0, #0x123, and the same with sh, ADD X0, X0, #0x123, LSL #12
add_adds : add_immediate 0x91048C00 ≡ 0x123
add_adds = refl

add_shifts : add_immediate 0x91448C00 ≡ 0x123000
add_shifts = refl

-- NOP of a register has neither SIB nor displacement, whichever the register is.
nop_of_a_register : nop_length (0x0F ∷ 0x1F ∷ 0xC4 ∷ []) ≡ 3
unfolding nop_length
nop_of_a_register = refl

-- With mod 0, register 5 is a displacement of four bytes: of ModR/M, and of SIB's base.
nop_of_an_address : nop_length (0x0F ∷ 0x1F ∷ 0x05 ∷ 0 ∷ 0 ∷ 0 ∷ 0 ∷ []) ≡ 7
unfolding nop_length
nop_of_an_address = refl

nop_of_a_scaled_address : nop_length (0x0F ∷ 0x1F ∷ 0x04 ∷ 0x25 ∷ 0 ∷ 0 ∷ 0 ∷ 0 ∷ []) ≡ 8
unfolding nop_length
nop_of_a_scaled_address = refl

-- Only the page kinds, ADRP and the ADD after it, ask where the code is loaded.
loaded_anywhere : (k : LabelUse) → code_of k ≢ 14 → code_of k ≢ 16 → load_multiple k ≡ 1
loaded_anywhere X86JmpRel32 no-adrp no_add = refl
loaded_anywhere X86BranchRel8 no-adrp no_add = refl
loaded_anywhere A64Branch14 no-adrp no_add = refl
loaded_anywhere A64Branch19 no-adrp no_add = refl
loaded_anywhere A64Branch26 no-adrp no_add = refl
loaded_anywhere A64Ldr19 no-adrp no_add = refl
loaded_anywhere A64Adr21 no-adrp no_add = refl
loaded_anywhere A64Adrp21 no-adrp no_add = absurd (no-adrp refl)
loaded_anywhere A64AddAbsLo12 no-adrp no_add = absurd (no_add refl)
