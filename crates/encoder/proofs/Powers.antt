-- A number above 0 that has no bit in common with the one below it is a power of two: so `align & (align - 1) == 0` tests for one.
use Rattle.std.proofs.Common.{◌≡◌, ℕ, zero, suc, ◌+◌, ◌-◌, ◌*◌, ◌/◌, ◌%◌, ◌^◌, ◌<◌, ◌≤◌, min, sym, ◌∙◌, ⊎_elim, pow-suc, arith}
use lib.Bits.{bit_and, and_step, and_self}
use Rattle.seqs.proofs.Numbers.{lt_or_ge}

-- A power of two of at most n bits.
pub record Power (n a : ℕ) : Type 0 where
  pub exponent : ℕ
  pub least : exponent ≤ n
  pub is : a ≡ 2 ^ exponent

-- By halving. Of an odd number both halves are the same, so its half is 0; of an even one the other half is the one below its half.
pub power_of_two : (n a : ℕ) → 0 < a → a < 2 ^ n → bit_and a (a - 1) ≡ 0 → Power n a
power_of_two zero a h l e = absurd (omega (arith, h, l))
power_of_two (suc n) a h l e =
    let step : bit_and (a / 2) ((a - 1) / 2) * 2 + min (a % 2) ((a - 1) % 2) ≡ 0 = sym (and_step a (a - 1)) ∙ e in
    let halves : bit_and (a / 2) ((a - 1) / 2) ≡ 0 = omega (arith, step) in
    ⊎_elim
    (λ (even : a % 2 < 1).
    let less : (a - 1) / 2 ≡ a / 2 - 1 = omega arith in
    let half : Power n (a / 2) = power_of_two n (a / 2) (omega arith) (omega (arith, l, pow-suc 2 n)) (rw (← less) halves) in
    record { exponent = suc half.exponent; least = omega (arith, half.least); is = omega (arith, half.is, pow-suc 2 half.exponent) })
    (λ (odd : 1 ≤ a % 2).
    let same : (a - 1) / 2 ≡ a / 2 = omega arith in
    let none : a / 2 ≡ 0 = sym (and_self (a / 2)) ∙ rw same at halves in
    let one : a ≡ 1 = omega arith in
    record { exponent = 0; least = omega arith; is = one })
    (lt_or_ge (a % 2) 1)
