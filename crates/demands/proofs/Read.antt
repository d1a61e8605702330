-- The bytes of a jump are read in one way.
use mathlib.Core.Path.{◌≡◌, refl, sym, ap, ◌∙◌}
use mathlib.Core.Bool.{cond}
use mathlib.Core.List.{List}
use Prim.Native.Nat.{ℕ, ◌+◌, ◌-◌}
use native.Mathlib.Omega.{arith}
use lib.Dec.{eqb, leb}
use lib.ListN.{length, get_or, drop}
use borrow.Author.Tests.{ne_eqb, lt-leb}
use Rattle.words.specs.Words.{word_at}
use Rattle.fields.specs.Words64.{plus}
use Rattle.fields.specs.Intel.{rel8, rel32}
use Rattle.relax.specs.declared.Condition.{Condition}
use Rattle.relax.specs.declared.Condition.TheVariants.{Always, On}
use Rattle.demands.specs.Reading.{Reads, jmp_rel8, jmp_rel32, jcc_rel8, jcc_rel32}

-- the condition, by the opcode: 0F and 80 to 8F, 70 to 7F, or none
abbrev condition_read : List ℕ → Condition
condition_read l = cond (eqb (get_or l 0 0) 0x0F) (On (get_or l 1 0 - 0x80)) (cond (leb 0x80 (get_or l 0 0)) Always (On (get_or l 0 0 - 0x70)))

-- the target, by the length: a displacement of one byte in two, else of four
abbrev target_read : ℕ → List ℕ → ℕ
target_read address l =
    cond (eqb (length l) 2) (rel8 (plus address 1) (get_or l 1 0)) (rel32 (plus address (length l - 4)) (word_at (drop (length l - 4) l) 0))

minus_same : (n cc : ℕ) → n + cc - n ≡ cc
minus_same n cc = omega arith

condition_is : (address : ℕ) (l : List ℕ) (c : Condition) (t : ℕ) → Reads address l c t → condition_read l ≡ c
condition_is address _ _ _ (jmp_rel8 d) = refl
condition_is address _ _ _ (jmp_rel32 d0 d1 d2 d3) = refl
condition_is address _ _ _ (jcc_rel8 cc d h) =
    rw (ne_eqb (0x70 + cc) 0x0F (λ e. omega arith), lt-leb 0x80 (0x70 + cc) (omega arith), minus_same 0x70 cc) refl
condition_is address _ _ _ (jcc_rel32 cc d0 d1 d2 d3 h) = ap On (minus_same 0x80 cc)

target_is : (address : ℕ) (l : List ℕ) (c : Condition) (t : ℕ) → Reads address l c t → target_read address l ≡ t
target_is address _ _ _ (jmp_rel8 d) = refl
target_is address _ _ _ (jmp_rel32 d0 d1 d2 d3) = refl
target_is address _ _ _ (jcc_rel8 cc d h) = refl
target_is address _ _ _ (jcc_rel32 cc d0 d1 d2 d3 h) = refl

-- The same bytes at the same address have one condition and one target.
pub reads_once : (address : ℕ) (l : List ℕ) (c c' : Condition) (t t' : ℕ) → Reads address l c t → Reads address l c' t' → (c ≡ c') × (t ≡ t')
reads_once address l c c' t t' a b = (
  sym (condition_is address l c t a) ∙ condition_is address l c' t' b,
  sym (target_is address l c t a) ∙ target_is address l c' t' b,
)
