-- What is patched means, by the manuals, what its label demands.
use Rattle.std.proofs.Common.{◌≡◌, ℕ, ◌+◌, ◌-◌, ◌*◌, ◌/◌, ◌%◌, ◌^◌, ◌<◌, ◌≤◌, true, ◌&&◌, eqb, sym, refl, ap, ◌∙◌, subst, mod-lt, arith, eq-eqb, eqb-true}
use lib.Pow.{mod-pow-add}
use Rattle.seqs.proofs.Booleans.{both_true}
use Rattle.fields.specs.declared.LabelUse.{LabelUse}
use Rattle.fields.specs.declared.LabelUse.TheVariants.{
  X86JmpRel32,
  X86BranchRel8,
  A64Branch14,
  A64Branch19,
  A64Branch26,
  A64Ldr19,
  A64Adr21,
  A64Adrp21,
  A64AddAbsLo12,
}
use Rattle.fields.specs.Words64.{modulus, plus, minus, range, sign_extend}
use Rattle.fields.specs.Bits.{bits, insert_bits}
use Rattle.fields.specs.Reach.{can_reach, can_reach_delta, pages_reach, page}
use Rattle.fields.specs.Patch.{patched_word, insert_adr}
use Rattle.fields.specs.Arm.{immhilo, add_immediate}
use Rattle.fields.specs.Meaning.{meaning, demanded, load_multiple, Clear}
use Rattle.fields.proofs.Insertion.{insert_read, insert_above}
use Rattle.fields.proofs.Signed.{extend_low, extend_exact, widen_range, minus_zero, plus_minus}

-- A distance in words of 4 bytes, inserted at any position and width, is read back whole.
words_read : (p m w d : ℕ) → m + 2 ≤ 64 → d < modulus → d % 4 ≡ 0
    → range (2 ^ (m + 2 - 1)) (2 ^ (m + 2 - 1) - 1) d ≡ true
    → sign_extend (m + 2) (insert_bits p m w (d / 4) / 2 ^ p % 2 ^ m * 4) ≡ d
words_read p m w d small l four r =
    let e : insert_bits p m w (d / 4) / 2 ^ p % 2 ^ m * 4 ≡ d % 2 ^ (m + 2) =
    ap (λ (x : ℕ). x * 4) (insert_read p m w (d / 4))
    ∙ sym (mod-pow-add d m 2 ∙ ap (λ (x : ℕ). d / 4 % 2 ^ m * 4 + x) four ∙ omega arith) in
    ap (λ (x : ℕ). sign_extend (m + 2) x) e ∙ extend_low (m + 2) d ∙ extend_exact (m + 2) (omega arith) small d l r

-- A number inserted as immhi:immlo is read back in its low 21 bits.
adr_read : (w v : ℕ) → immhilo (insert_adr w v) ≡ v % 2097152
adr_read w v =
    let lo : bits 30 29 (insert_adr w v) ≡ v % 4 =
    ap (λ (x : ℕ). x % 4) (insert_above 5 19 (insert_bits 29 2 w v) (v / 4) 29 (omega arith)) ∙ insert_read 29 2 w v in
    let hi : bits 23 5 (insert_adr w v) ≡ v / 4 % 524288 = insert_read 5 19 (insert_bits 29 2 w v) (v / 4) in
    rw (lo, hi) (sym (mod-pow-add v 19 2))

-- a distance that a field of m bits, counted in words of 4 bytes, reaches
words_reached : (q d : ℕ) → (eqb (d % 4) 0 && range (4 * q) (4 * q - 4) d) ≡ true → (d % 4 ≡ 0) × (range (4 * q) (4 * q - 1) d ≡ true)
words_reached q d h =
    let b = both_true (eqb (d % 4) 0) (range (4 * q) (4 * q - 4) d) h in
    (eqb-true (d % 4) 0 b.0, widen_range (4 * q) (4 * q - 4) (4 * q - 1) d (omega arith) b.1)

-- pages move with the code, which is loaded on a multiple of 4,096
page_plus : (base offset : ℕ) → base % 4096 ≡ 0 → page (plus base offset) ≡ plus base (page offset)
page_plus base offset h = omega arith

-- the distance of two pages, counted in pages and in bytes
pages_scale : (target offset : ℕ) → target < modulus → offset < modulus
    → minus (target / 4096) (offset / 4096) % 2097152 * 4096 ≡ minus (page target) (page offset) % 8589934592
pages_scale target offset h l = omega arith

module _ (base offset target word : ℕ) (offset-fits : offset < modulus) (target_fits : target < modulus) where
  d_lt : minus target offset < modulus
  d_lt = mod-lt (target + (modulus - offset)) (omega arith)

  -- an address field of an A64 branch or literal load
  branch_means : (p m q : ℕ) → m + 2 ≤ 64 → 2 ^ (m + 2 - 1) ≡ 4 * q
      → (eqb (minus target offset % 4) 0 && range (4 * q) (4 * q - 4) (minus (minus target offset) 0)) ≡ true
      → plus (plus base offset) (sign_extend (m + 2) (insert_bits p m word (minus target offset / 4) / 2 ^ p % 2 ^ m * 4)) ≡ plus base target
  branch_means p m q small half r =
      let d = minus target offset in
      let reached = words_reached q d (rw (minus_zero d d_lt) at r) in
      let exact = words_read p m word d small d_lt reached.0 (subst (λ (h : ℕ). range h (h - 1) d ≡ true) (sym half) reached.1) in
      ap (λ (x : ℕ). plus (plus base offset) x) exact ∙ plus_minus base offset target offset-fits

  -- an x86 displacement of n bits, counted from the end of a field of `size` bytes
  displacement_means : (n size : ℕ) → 0 < n → n ≤ 64 → size < modulus
      → range (2 ^ (n - 1)) (2 ^ (n - 1) - 1) (minus (minus target offset) size) ≡ true
      → plus (plus (plus base offset) size) (sign_extend n (minus (minus target offset) size % 2 ^ n)) ≡ plus base target
  displacement_means n size positive small fits r =
      let d = minus target offset in
      let exact : sign_extend n (minus d size % 2 ^ n) ≡ minus d size =
      extend_low n (minus d size) ∙ extend_exact n positive small (minus d size) (mod-lt (d + (modulus - size)) (omega arith)) r in
      ap (λ (x : ℕ). plus (plus (plus base offset) size) x) exact
      ∙ plus_minus (plus base offset) size d fits
      ∙ plus_minus base offset target offset-fits

  adr_means : range 1048576 1048575 (minus (minus target offset) 0) ≡ true
      → plus (plus base offset) (sign_extend 21 (immhilo (insert_adr word (minus target offset)))) ≡ plus base target
  adr_means r =
      let d = minus target offset in
      let exact : sign_extend 21 (immhilo (insert_adr word d)) ≡ d =
      ap (λ (x : ℕ). sign_extend 21 x) (adr_read word d) ∙ extend_low 21 d ∙ extend_exact 21 (omega arith) (omega arith) d d_lt (rw (minus_zero d d_lt) at r) in
      ap (λ (x : ℕ). plus (plus base offset) x) exact ∙ plus_minus base offset target offset-fits

  adrp_means : base % 4096 ≡ 0 → range 4294967296 4294963200 (minus (page target) (page offset)) ≡ true
      → plus (page (plus base offset)) (sign_extend 33 (immhilo (insert_adr word (minus (target / 4096) (offset / 4096))) * 4096)) ≡ page (plus base target)
  adrp_means aligned r =
      let v = minus (target / 4096) (offset / 4096) in
      let d = minus (page target) (page offset) in
      let fits : page offset < modulus = omega arith in
      let exact : sign_extend 33 (immhilo (insert_adr word v) * 4096) ≡ d =
      ap (λ (x : ℕ). sign_extend 33 (x * 4096)) (adr_read word v)
      ∙ ap (λ (x : ℕ). sign_extend 33 x) (pages_scale target offset target_fits offset-fits)
      ∙ extend_low 33 d
      ∙ extend_exact 33 (omega arith) (omega arith) d (mod-lt (page target + (modulus - page offset)) (omega arith))
      (widen_range 4294967296 4294963200 4294967295 d (omega arith) r) in
      ap (λ (x : ℕ). plus (page (plus base offset)) x) exact
      ∙ ap (λ (x : ℕ). plus x d) (page_plus base offset aligned)
      ∙ plus_minus base (page offset) (page target) fits
      ∙ sym (page_plus base target aligned)

  -- sh lies above the field and stays 0, so the immediate is not shifted
  add_means : base % 4096 ≡ 0 → bits 22 22 word ≡ 0 → add_immediate (insert_bits 10 12 word target) ≡ plus base target % 4096
  add_means aligned clear =
      let added = insert_bits 10 12 word target in
      let sh : bits 22 22 added ≡ 0 = ap (λ (x : ℕ). x % 2) (insert_above 10 12 word target 22 (omega arith)) ∙ clear in
      rw (eq-eqb (bits 22 22 added) 0 sh, insert_read 10 12 word target) (omega arith)

-- Every field that reaches its target means, by the manuals, what the target demands, wherever the code is loaded.
pub patched_means : (k : LabelUse) (base offset target word : ℕ) → offset < modulus → target < modulus → base % load_multiple k ≡ 0 → Clear k word
    → can_reach k offset target ≡ true → meaning k (plus base offset) (patched_word k word offset target) ≡ demanded k (plus base target)
unfolding can_reach can_reach_delta pages_reach
patched_means X86JmpRel32 base offset target word o t a c r = displacement_means base offset target word o t 32 4 (omega arith) (omega arith) (omega arith) r
patched_means X86BranchRel8 base offset target word o t a c r = displacement_means base offset target word o t 8 1 (omega arith) (omega arith) (omega arith) r
patched_means A64Branch14 base offset target word o t a c r = branch_means base offset target word o t 5 14 8192 (omega arith) refl r
patched_means A64Branch19 base offset target word o t a c r = branch_means base offset target word o t 5 19 262144 (omega arith) refl r
patched_means A64Branch26 base offset target word o t a c r = branch_means base offset target word o t 0 26 33554432 (omega arith) refl r
patched_means A64Ldr19 base offset target word o t a c r = branch_means base offset target word o t 5 19 262144 (omega arith) refl r
patched_means A64Adr21 base offset target word o t a c r = adr_means base offset target word o t r
patched_means A64Adrp21 base offset target word o t a c r = adrp_means base offset target word o t a r
patched_means A64AddAbsLo12 base offset target word o t a c r = add_means base offset target word o t a c
