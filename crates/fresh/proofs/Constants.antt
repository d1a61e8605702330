-- Laws of the alignment of constants, and of code with a pool: document 02, Request One.
use mathlib.Core.Path.{◌≡◌, refl}
use mathlib.Core.Logic.{◌⊎◌, inl, inr, ⊎_elim}
use mathlib.Core.Bool.{Bool, true, false, cond}
use mathlib.Core.List.{List, [], ◌∷◌, ◌++◌}
use Prim.Native.Nat.{ℕ, zero, suc, ◌%◌, ◌≤◌, ◌<◌, max}
use native.Mathlib.Omega.{arith}
use lib.Dec.{leb}
use lib.ListN.{length, get_or}
use Rattle.encoder.specs.Padding.{padding_length, padding_within}
use Rattle.encoder.proofs.Padding.{padding_below, within_needed}
use Rattle.buffer.specs.Tables.{default_most}
use Rattle.fresh.specs.Pooled.{constant_alignment, Placed, code_alignment}

-- what holds of 8, 16 and 64 holds of every constant's alignment
pub alignment_cases : (P : ℕ → Type 0) → P 8 → P 16 → P 64 → (n : ℕ) → P (constant_alignment n)
alignment_cases P eight sixteen most n = by (leb n 8) (leb n 32)
  where
    by : (s t : Bool) → P (cond s 8 (cond t 16 64))
    by true t = eight
    by false true = sixteen
    by false false = most

pub alignment_range : (n : ℕ) → (8 ≤ constant_alignment n) × (constant_alignment n ≤ 64)
alignment_range = alignment_cases (λ (a : ℕ). (8 ≤ a) × (a ≤ 64)) (omega arith) (omega arith) (omega arith)

-- A constant's padding is at most 63 bytes.
pub constant_padding : (offset n : ℕ) → padding_length offset (constant_alignment n) ≤ 63
constant_padding offset n =
    let range = alignment_range n in omega (arith, range, padding_below offset (constant_alignment n) (omega (arith, range)))

-- So the default lets a constant's alignment spend all that it needs.
pub constant_spends : (offset n : ℕ) → padding_within offset (constant_alignment n) default_most ≡ padding_length offset (constant_alignment n)
constant_spends offset n = within_needed offset (constant_alignment n) default_most (omega (arith, constant_padding offset n))

-- Code with a pool is aligned on 32 or 64.
pub code_alignment_known : (ks : List Placed) → (code_alignment ks ≡ 32) ⊎ (code_alignment ks ≡ 64)
unfolding code_alignment
code_alignment_known [] = inl refl
code_alignment_known (k ∷ ks) = greater (code_alignment_known ks)
  where
    greater : (code_alignment ks ≡ 32) ⊎ (code_alignment ks ≡ 64)
        → (max (constant_alignment (length k.bytes)) (code_alignment ks) ≡ 32) ⊎ (max (constant_alignment (length k.bytes)) (code_alignment ks) ≡ 64)
    greater h =
        alignment_cases (λ (a : ℕ). (max a (code_alignment ks) ≡ 32) ⊎ (max a (code_alignment ks) ≡ 64))
        (⊎_elim (λ e. inl (omega arith)) (λ e. inr (omega arith)) h)
        (⊎_elim (λ e. inl (omega arith)) (λ e. inr (omega arith)) h)
        (⊎_elim (λ e. inr (omega arith)) (λ e. inr (omega arith)) h)
        (length k.bytes)

module _ (z : Placed) where
  -- the alignment of constant i
  abbrev own : List Placed → ℕ → ℕ
  own ks i = constant_alignment (length (get_or ks i z).bytes)

  code_alignment_most : (ks : List Placed) (i : ℕ) → i < length ks → own ks i ≤ code_alignment ks
  unfolding code_alignment
  code_alignment_most [] i h = absurd (omega arith)
  code_alignment_most (k ∷ ks) zero h = omega arith
  code_alignment_most (k ∷ ks) (suc i) h = omega (arith, code_alignment_most ks i (omega arith))

  -- It is a multiple of every constant's own.
  pub code_alignment_multiple : (ks : List Placed) (i : ℕ) → i < length ks → code_alignment ks % own ks i ≡ 0
  code_alignment_multiple ks i h = multiple (length (get_or ks i z).bytes) (code_alignment_known ks) (code_alignment_most ks i h)
    where
      multiple : (n : ℕ) → (code_alignment ks ≡ 32) ⊎ (code_alignment ks ≡ 64) → constant_alignment n ≤ code_alignment ks → code_alignment ks % constant_alignment n ≡ 0
      multiple n (inl e) =
          alignment_cases (λ (a : ℕ). a ≤ code_alignment ks → code_alignment ks % a ≡ 0) (λ le. omega arith) (λ le. omega arith) (λ le. absurd (omega arith)) n
      multiple n (inr e) = alignment_cases (λ (a : ℕ). a ≤ code_alignment ks → code_alignment ks % a ≡ 0) (λ le. omega arith) (λ le. omega arith) (λ le. omega arith) n

  -- It is no greater than 32 and all of them ask.
  pub code_alignment_least : (ks : List Placed) (m : ℕ) → 32 ≤ m → ((i : ℕ) → i < length ks → own ks i ≤ m) → code_alignment ks ≤ m
  unfolding code_alignment
  code_alignment_least [] m h each = h
  code_alignment_least (k ∷ ks) m h each = omega (arith, each 0 (omega arith), code_alignment_least ks m h (λ i l. each (suc i) (omega arith)))

pub code_alignment_snoc : (ks : List Placed) (k : Placed) → code_alignment (ks ++ (k ∷ [])) ≡ max (code_alignment ks) (constant_alignment (length k.bytes))
unfolding code_alignment
code_alignment_snoc [] k = omega arith
code_alignment_snoc (x ∷ ks) k = omega (arith, code_alignment_snoc ks k)
