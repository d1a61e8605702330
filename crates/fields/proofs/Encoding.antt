-- What can be reached is exactly what the manuals can encode.
use Rattle.std.proofs.Common.{rules, ◌≡◌, ℕ, ◌+◌, ◌-◌, ◌*◌, ◌%◌, ◌^◌, ◌<◌, ◌≤◌, true, ◌&&◌, eqb, ◌≢◌, ◌↔◌, refl, ◌∙◌, subst, ⊎_elim, mod-lt, arith, pow-add, eq-eqb}
use lib.Pow.{mod-pow-add}
use Rattle.seqs.proofs.Numbers.{lt_or_ge}
use Rattle.fields.specs.declared.LabelUse.{LabelUse}
use Rattle.fields.specs.declared.LabelUse.TheVariants.{
  X86JmpRel32,
  X86BranchRel8,
  A64Branch14,
  A64Branch19,
  A64Branch26,
  A64Ldr19,
  A64Adr21,
  A64Adrp21,
  A64AddAbsLo12,
}
use Rattle.fields.specs.Words64.{modulus, plus, minus, range, sign_extend}
use Rattle.fields.specs.Reach.{can_reach, can_reach_delta, page, pages_reach}
use Rattle.fields.specs.Patch.{patched_word}
use Rattle.fields.specs.Bits.{bits}
use Rattle.fields.specs.Arm.{immhilo}
use Rattle.fields.specs.Meaning.{load_multiple, Clear, Encodable}
use Rattle.fields.proofs.Signed.{extend_positive, extend_negative, extend_range, extend_lt, range_true, true_range, minus_zero, minus_of_plus, minus_minus}
use Rattle.fields.proofs.Meaning.{patched_means}

extend_words : (m x : ℕ) → sign_extend (m + 2) (x * 4) % 4 ≡ 0
extend_words m x =
    let whole = pow-add 2 m 2 in
    let low = mod-pow-add (x * 4) m 2 in
    ⊎_elim
    (λ lt. omega (arith, extend_positive (m + 2) (x * 4) lt))
    (λ ge. omega (arith, extend_negative (m + 2) (x * 4) ge))
    (lt_or_ge (x * 4 % 2 ^ (m + 2)) (2 ^ (m + 2 - 1)))

-- multiples of 4 below a power of two end 4 below it
words_range : (q d : ℕ) → 0 < q → d % 4 ≡ 0 → range (4 * q) (4 * q - 1) d ≡ true → range (4 * q) (4 * q - 4) d ≡ true
words_range q d positive four r = true_range (4 * q) (4 * q - 4) d (omega (arith, range_true (4 * q) (4 * q - 1) d r))

pages_range : (x : ℕ) → range 4294967296 4294963200 (sign_extend 33 (x * 4096)) ≡ true
pages_range x =
    true_range 4294967296 4294963200 (sign_extend 33 (x * 4096))
    (⊎_elim
    (λ lt. omega (arith, extend_positive 33 (x * 4096) lt))
    (λ ge. omega (arith, extend_negative 33 (x * 4096) ge))
    (lt_or_ge (x * 4096 % 8589934592) 4294967296))

module _ (offset target : ℕ) (offset-fits : offset < modulus) where
  -- a branch or literal load names what its field reaches
  branch_reaches : (m q x : ℕ) → m + 2 ≤ 64 → 2 ^ (m + 2 - 1) ≡ 4 * q → 0 < q → plus offset (sign_extend (m + 2) (x * 4)) ≡ target
      → (eqb (minus target offset % 4) 0 && range (4 * q) (4 * q - 4) (minus (minus target offset) 0)) ≡ true
  branch_reaches m q x small half positive e =
      let d = sign_extend (m + 2) (x * 4) in
      let l = extend_lt (m + 2) (omega arith) small (x * 4) in
      let same : minus target offset ≡ d = minus_of_plus offset d target offset-fits l e in
      let in-range = subst (λ (h : ℕ). range h (h - 1) d ≡ true) half (extend_range (m + 2) (omega arith) small (x * 4)) in
      rw (same, eq-eqb (d % 4) 0 (extend_words m x), minus_zero d l) (words_range q d positive (extend_words m x) in-range)

  displacement_reaches : (n size field : ℕ) → 0 < n → n ≤ 64 → size < modulus → plus (plus offset size) (sign_extend n field) ≡ target
      → range (2 ^ (n - 1)) (2 ^ (n - 1) - 1) (minus (minus target offset) size) ≡ true
  displacement_reaches n size field positive small fits e =
      let d = sign_extend n field in
      let same : minus (minus target offset) size ≡ d =
      minus_minus target offset size offset-fits fits
      ∙ minus_of_plus (plus offset size) d target (mod-lt (offset + size) (omega arith)) (extend_lt n positive small field) e in
      rw same (extend_range n positive small field)

module _ (offset target : ℕ) (offset-fits : offset < modulus) (target_fits : target < modulus) where
  -- an instruction whose other bits are 0 serves as well as any
  loaded_at_0 : (k : LabelUse) → k ≢ A64AddAbsLo12 → (0 % load_multiple k ≡ 0) × Clear k 0
  loaded_at_0 k other = search rules

  reach_encodes : (k : LabelUse) → k ≢ A64AddAbsLo12 → can_reach k offset target ≡ true → Encodable k offset target
  reach_encodes k other r =
      let c = loaded_at_0 k other in
      let means = patched_means k 0 offset target 0 offset-fits target_fits c.0 c.1 r in
      let o : plus 0 offset ≡ offset = omega arith in
      let t : plus 0 target ≡ target = omega arith in
      (patched_word k 0 offset target, rw (o, t) at means)

  encodes_reach : (k : LabelUse) → k ≢ A64AddAbsLo12 → Encodable k offset target → can_reach k offset target ≡ true
  unfolding can_reach can_reach_delta pages_reach
  encodes_reach X86JmpRel32 other e = displacement_reaches offset target offset-fits 32 4 e.0 (omega arith) (omega arith) (omega arith) e.1
  encodes_reach X86BranchRel8 other e = displacement_reaches offset target offset-fits 8 1 e.0 (omega arith) (omega arith) (omega arith) e.1
  encodes_reach A64Branch14 other e = branch_reaches offset target offset-fits 14 8192 (bits 18 5 e.0) (omega arith) refl (omega arith) e.1
  encodes_reach A64Branch19 other e = branch_reaches offset target offset-fits 19 262144 (bits 23 5 e.0) (omega arith) refl (omega arith) e.1
  encodes_reach A64Branch26 other e = branch_reaches offset target offset-fits 26 33554432 (bits 25 0 e.0) (omega arith) refl (omega arith) e.1
  encodes_reach A64Ldr19 other e = branch_reaches offset target offset-fits 19 262144 (bits 23 5 e.0) (omega arith) refl (omega arith) e.1
  encodes_reach A64Adr21 other e =
      let d = sign_extend 21 (immhilo e.0) in
      let l = extend_lt 21 (omega arith) (omega arith) (immhilo e.0) in
      let same : minus target offset ≡ d = minus_of_plus offset d target offset-fits l e.1 in
      rw (same, minus_zero d l) (extend_range 21 (omega arith) (omega arith) (immhilo e.0))
  encodes_reach A64Adrp21 other e =
      let d = sign_extend 33 (immhilo e.0 * 4096) in
      let same : minus (page target) (page offset) ≡ d =
      minus_of_plus (page offset) d (page target) (omega arith) (extend_lt 33 (omega arith) (omega arith) (immhilo e.0 * 4096)) e.1 in
      rw same (pages_range (immhilo e.0))
  encodes_reach A64AddAbsLo12 other e = absurd (other refl)

  -- A target can be reached exactly if some value of the field means what it demands. (ADD's field holds the low bits of any address.)
  pub reach_is_encodable : (k : LabelUse) → k ≢ A64AddAbsLo12 → can_reach k offset target ≡ true ↔ Encodable k offset target
  reach_is_encodable k other = (reach_encodes k other, encodes_reach k other)

raise : (a b : ℕ) → a < 4294967296 → b < 4294967296 → plus (minus a b) 4294967296 ≡ a + 4294967296 - b
raise a b h l = omega arith

-- The page kinds reach every label from every field.
pub pages_always_reach : (offset label : ℕ) → offset < 4294967296 → label < 4294967296 → pages_reach offset label ≡ true
unfolding pages_reach
pages_always_reach offset label o l =
    let raised : plus (minus (page label) (page offset)) 4294967296 ≡ page label + 4294967296 - page offset = raise (page label) (page offset) (omega arith) (omega arith) in
    true_range 4294967296 4294963200 (minus (page label) (page offset)) (rw raised (omega arith))
