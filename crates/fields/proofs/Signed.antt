-- Laws of 64-bit two's complement words.
use Rattle.std.proofs.Common.{◌≡◌, ℕ, suc, ◌+◌, ◌-◌, ◌*◌, ◌%◌, ◌^◌, ◌<◌, ◌≤◌, true, sym, ap, ◌∙◌, subst, ⊎_elim, mod-lt, mod-eq_of_lt, mul_comm, pow-suc, mul-one, le-mul_of_pos_right, two-mul, arith, pow_pos, pow-add, le-ltb, lt-ltb, le-leb, leb-true}
use native.Mathlib.Nat.{mod-mod, mod-add-mod, mul-add-mod_self_left, mul-sub}
use Rattle.seqs.proofs.Numbers.{lt_or_ge}
use Rattle.fields.specs.Words64.{modulus, plus, minus, range, sign_extend}

module _ (n v : ℕ) where
  pub extend_positive : v % 2 ^ n < 2 ^ (n - 1) → sign_extend n v ≡ v % 2 ^ n
  unfolding sign_extend
  extend_positive h = rw (lt-ltb (v % 2 ^ n) (2 ^ (n - 1)) h)

  pub extend_negative : 2 ^ (n - 1) ≤ v % 2 ^ n → sign_extend n v ≡ v % 2 ^ n + (modulus - 2 ^ n)
  unfolding sign_extend
  extend_negative h = rw (le-ltb (v % 2 ^ n) (2 ^ (n - 1)) h)

  -- only the low n bits count
  pub extend_low : sign_extend n (v % 2 ^ n) ≡ sign_extend n v
  unfolding sign_extend
  extend_low = rw (mod-mod v (2 ^ n))

pub range_true : (low high d : ℕ) → range low high d ≡ true → plus d low ≤ low + high
unfolding range
range_true low high d h = leb-true (plus d low) (low + high) h

pub true_range : (low high d : ℕ) → plus d low ≤ low + high → range low high d ≡ true
unfolding range
true_range low high d h = le-leb (plus d low) (low + high) h

pub minus_zero : (d : ℕ) → d < modulus → minus d 0 ≡ d
minus_zero d h = omega arith

-- an address and a distance from it
pub plus_minus : (base offset target : ℕ) → offset < modulus → plus (plus base offset) (minus target offset) ≡ plus base target
plus_minus base offset target h = omega arith

pub minus_of_plus : (offset distance target : ℕ) → offset < modulus → distance < modulus → plus offset distance ≡ target → minus target offset ≡ distance
minus_of_plus offset distance target h l e = omega arith

pub minus_minus : (target offset size : ℕ) → offset < modulus → size < modulus → minus (minus target offset) size ≡ minus target (plus offset size)
minus_minus target offset size h l =
    mod-add-mod (target + (modulus - offset)) modulus (modulus - size)
    ∙ ⊎_elim
    (λ lt. let e : plus offset size ≡ offset + size = mod-eq_of_lt lt in rw e (omega arith))
    (λ ge.
    let e : plus offset size ≡ offset + size - modulus = omega arith in
    let f : target + (modulus - offset) + (modulus - size) ≡ target + (modulus - (offset + size - modulus)) = omega arith in
    rw (e, f))
    (lt_or_ge (offset + size) modulus)

-- 2^64 is a multiple of 2^n
multiple_below : (n : ℕ) → n ≤ 64 → (modulus - 2 ^ n ≡ 2 ^ n * (2 ^ (64 - n) - 1)) × (2 ^ n ≤ modulus)
multiple_below n h =
    let e : n + (64 - n) ≡ 64 = omega arith in
    let whole : 2 ^ n * 2 ^ (64 - n) ≡ modulus = sym (pow-add 2 n (64 - n)) ∙ ap (λ (q : ℕ). 2 ^ q) e in (
      ap (λ (q : ℕ). q - 2 ^ n) (sym whole) ∙ ap (λ (q : ℕ). 2 ^ n * 2 ^ (64 - n) - q) (sym (mul-one (2 ^ n))) ∙ sym (mul-sub (2 ^ n) (2 ^ (64 - n)) 1),
      subst (λ (q : ℕ). 2 ^ n ≤ q) whole (le-mul_of_pos_right (2 ^ n) (pow_pos (64 - n))),
    )

twice : (n : ℕ) → 0 < n → 2 ^ n ≡ 2 ^ (n - 1) + 2 ^ (n - 1)
twice n h =
    let e : n ≡ suc (n - 1) = omega arith in
    ap (λ (q : ℕ). 2 ^ q) e ∙ pow-suc 2 (n - 1) ∙ mul_comm (2 ^ (n - 1)) 2 ∙ two-mul (2 ^ (n - 1))

module _ (n : ℕ) (positive : 0 < n) (small : n ≤ 64) where
  -- A distance in range is what its own low n bits extend to: it can be encoded.
  pub extend_exact : (d : ℕ) → d < modulus → range (2 ^ (n - 1)) (2 ^ (n - 1) - 1) d ≡ true → sign_extend n d ≡ d
  extend_exact d l r =
      let half = 2 ^ (n - 1) in
      let pos = pow_pos (n - 1) in
      let t = twice n positive in
      let m = multiple_below n small in
      let in-range = range_true half (half - 1) d r in
      ⊎_elim
      (λ lt.
      let e : d % 2 ^ n ≡ d = mod-eq_of_lt (omega arith) in
      extend_positive n d (rw e lt) ∙ e)
      (λ ge.
      let top : modulus - half ≤ d = omega arith in
      let e : d ≡ 2 ^ n * (2 ^ (64 - n) - 1) + (d - (modulus - 2 ^ n)) = omega arith in
      let f : d % 2 ^ n ≡ d - (modulus - 2 ^ n) =
      ap (λ (q : ℕ). q % 2 ^ n) e
      ∙ mul-add-mod_self_left (2 ^ n) (2 ^ (64 - n) - 1) (d - (modulus - 2 ^ n))
      ∙ mod-eq_of_lt (omega arith) in
      extend_negative n d (omega arith) ∙ omega arith)
      (lt_or_ge d half)

  -- What n bits extend to is in range.
  pub extend_range : (v : ℕ) → range (2 ^ (n - 1)) (2 ^ (n - 1) - 1) (sign_extend n v) ≡ true
  extend_range v =
      let half = 2 ^ (n - 1) in
      let pos = pow_pos (n - 1) in
      let t = twice n positive in
      let m = multiple_below n small in
      let under = mod-lt v (pow_pos n) in
      true_range half (half - 1) (sign_extend n v)
      (⊎_elim
      (λ lt. omega (arith, extend_positive n v lt))
      (λ ge. omega (arith, extend_negative n v ge))
      (lt_or_ge (v % 2 ^ n) half))

  pub extend_lt : (v : ℕ) → sign_extend n v < modulus
  extend_lt v =
      let pos = pow_pos (n - 1) in
      let t = twice n positive in
      let m = multiple_below n small in
      let under = mod-lt v (pow_pos n) in
      ⊎_elim
      (λ lt. omega (arith, extend_positive n v lt))
      (λ ge. omega (arith, extend_negative n v ge))
      (lt_or_ge (v % 2 ^ n) (2 ^ (n - 1)))

pub widen_range : (low high more d : ℕ) → high ≤ more → range low high d ≡ true → range low more d ≡ true
widen_range low high more d h r = true_range low more d (omega (arith, range_true low high d r))
