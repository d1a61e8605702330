-- The conditional branches of A64 and their conditions: Arm Architecture Reference Manual for A-profile, C6.2, "TBZ", "TBNZ", "CBZ", "CBNZ", "B.cond", in its
-- notation; and the branch with the inverse condition: document 02, Request Eight.
use Rattle.std.specs.Prelude.{ℕ, ◌+◌, ◌-◌, ◌*◌, ◌%◌, ◌^◌, Bool, true, false, cond, not, ◌&&◌, ◌||◌, List, [], ◌∷◌, ◌++◌, ◌==◌, nat_eq, nat_lt, slice_index_or}
use Rattle.seqs.specs.Pick.{pick}
use Rattle.words.specs.Words.{bytes_of}
use Rattle.fields.specs.declared.LabelUse.{LabelUse}
use Rattle.fields.specs.declared.LabelUse.TheVariants.{A64Branch14, A64Branch19}
use Rattle.fields.specs.Bits.{bits, insert_bits}
use Rattle.fields.specs.Patch.{patched_word}

-- What a condition is about: the general registers, 64 bits each, and the flags PSTATE.N, Z, C, V.
pub record State : Type 0 where
  pub x : ℕ → ℕ
  pub n : Bool
  pub z : Bool
  pub c : Bool
  pub v : Bool

-- X[t, 64]: register 31 reads as zero
abbrev pub register : State → ℕ → ℕ
register s t = pick (t == 31) 0 (s.x t)

-- the two are equal
abbrev pub same : Bool → Bool → Bool
same true b = b
same false b = not b

-- ConditionHolds(cond), its result before the inversion, by cond<3:1>: EQ or NE, CS or CC, MI or PL, VS or VC, HI or LS, GE or LT, GT or LE, AL
abbrev pub bases : State → List Bool
bases s =
    s.z ∷ s.c ∷ s.n ∷ s.v ∷ (s.c && not s.z) ∷ same s.n s.v ∷ (same s.n s.v && not s.z) ∷ true ∷ []

-- "Condition flag values in the set '111x' indicate always true. Otherwise, invert condition if necessary": if cond<0> == '1' && cond != '1111'
unfoldable pub condition_holds : State → ℕ → Bool
condition_holds s cond = let base = slice_index_or (bases s) (bits 3 1 cond) true in pick (bits 0 0 cond == 1 && not (cond == 15)) (not base) base

-- TBZ, TBNZ: bit_pos = UInt(b5:b40), bit_val = op; "if operand<bit_pos> == bit_val then"
unfoldable pub test_holds : State → ℕ → Bool
test_holds s word =
    let at = bits 31 31 word * 32 + bits 23 19 word in
    (bits at at (register s (bits 4 0 word)) == bits 24 24 word)

-- CBZ, CBNZ: datasize is 64 where sf is 1, else 32; iszero = (op == '0'); "if IsZero(operand1) == iszero then"
unfoldable pub compare_holds : State → ℕ → Bool
compare_holds s word =
    let zero = nat_eq (register s (bits 4 0 word) % 2 ^ (32 + bits 31 31 word * 32)) 0 in
    same zero (bits 24 24 word == 0)

-- which of them a word is: x011011 TBZ and TBNZ, x011010 CBZ and CBNZ, 01010100 and bit 4 clear B.cond
abbrev pub is_test : ℕ → Bool
is_test word = bits 30 25 word == 27

abbrev pub is_compare : ℕ → Bool
is_compare word = bits 30 25 word == 26

abbrev pub is_on_flags : ℕ → Bool
is_on_flags word = bits 31 24 word == 84 && bits 4 4 word == 0

-- the condition on which a conditional branch is taken
unfoldable pub taken : State → ℕ → Bool
taken s word = pick (is_test word) (test_holds s word) (pick (is_compare word) (compare_holds s word) (condition_holds s (bits 3 0 word)))

-- "a recorded 4-byte conditional branch of code 9 or 10"; 30: "the word is none of these branches with its code, or is B.cond with condition 14 or 15"
unfoldable pub is_branch : ℕ → ℕ → Bool
is_branch code word =
    pick (code == 9) (is_test word) (code == 10 && (is_compare word || is_on_flags word && nat_lt (bits 3 0 word) 14))

-- one bit turned
abbrev pub turned : ℕ → ℕ → ℕ
turned p word = insert_bits p 1 word (1 - bits p p word)

-- "TBZ/TBNZ and CBZ/CBNZ invert bit 24, B.cond its lowest condition bit"
unfoldable pub inverse : ℕ → ℕ
inverse word = pick (bits 31 24 word == 84) (turned 0 word) (turned 24 word)

-- the kind of field of a branch's code
abbrev pub field_kind : ℕ → LabelUse
field_kind code = cond (code == 9) A64Branch14 A64Branch19

-- "the inverse branch with displacement 8"
abbrev pub skipping : ℕ → ℕ → ℕ
skipping code word = patched_word (field_kind code) (inverse word) 0 8

-- B, displacement open
abbrev pub open_b : ℕ
open_b = 0x14000000

-- a branch's forms, displacements open: its recorded word; "the inverse branch with displacement 8, then B to the label"
abbrev pub short_branch : ℕ → List ℕ
short_branch word = bytes_of word

abbrev pub long_branch : ℕ → ℕ → List ℕ
long_branch code word = bytes_of (skipping code word) ++ bytes_of open_b
