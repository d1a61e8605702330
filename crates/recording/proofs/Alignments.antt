-- `is_alignment`, which tests that a number divides 4,096, holds of the powers of two up to 4,096 and of no other number.
use mathlib.Core.Path.{◌≡◌, refl, sym}
use mathlib.Core.Logic.{⊎_elim}
use mathlib.Core.Bool.{Bool, true, false, not, ◌&&◌, ◌||◌}
use Prim.Native.Nat.{ℕ, zero, suc, ◌%◌, ◌≤◌, ◌<◌}
use native.Mathlib.Nat.{not-suc-le-zero, mod-eq_of_lt}
use native.Mathlib.Omega.{arith}
use borrow.Author.Tests.{ne_eqb}
use lib.Dec.{eqb}
use Rattle.seqs.proofs.Booleans.{true_is_not_false, both_true}
use Rattle.seqs.proofs.Numbers.{lt_or_ge}
use Rattle.buffer.specs.Refusals.{is_alignment}

abbrev pub is_power : ℕ → Bool
is_power n =
    eqb n 1 || eqb n 2 || eqb n 4 || eqb n 8 || eqb n 16 || eqb n 32 || eqb n 64 || eqb n 128 || eqb n 256 || eqb n 512 || eqb n 1024 || eqb n 2048 || eqb n 4096

same : Bool → Bool → Bool
same true b = b
same false b = not b

-- the two tests agree on the first n numbers
agree : ℕ → Bool
agree zero = true
agree (suc n) = same (is_alignment n) (is_power n) && agree n

agreed : agree 4097 ≡ true
unfolding agree same is_alignment
agreed = refl

same_equal : (a b : Bool) → same a b ≡ true → a ≡ b
unfolding same
same_equal true b h = sym h
same_equal false true h = absurd (true_is_not_false (sym h))
same_equal false false h = refl

agree_at : (n m : ℕ) → agree n ≡ true → m < n → is_alignment m ≡ is_power m
unfolding agree
agree_at zero m h l = absurd (not-suc-le-zero l)
agree_at (suc n) m h l =
    let f = both_true (same (is_alignment n) (is_power n)) (agree n) h in
    ⊎_elim
    (λ lt. agree_at n m f.1 lt)
    (λ ge. let e : m ≡ n = omega arith in rw e (same_equal (is_alignment n) (is_power n) f.0))
    (lt_or_ge m n)

past_limit_lem : (n : ℕ) → 4097 ≤ n → is_alignment n ≡ is_power n
unfolding is_alignment
past_limit_lem n h =
    let whole : 4096 % n ≡ 4096 = mod-eq_of_lt h in
    rw (
      ne_eqb n 0 (λ e. omega arith),
      whole,
      ne_eqb n 1 (λ e. omega arith),
      ne_eqb n 2 (λ e. omega arith),
      ne_eqb n 4 (λ e. omega arith),
      ne_eqb n 8 (λ e. omega arith),
      ne_eqb n 16 (λ e. omega arith),
      ne_eqb n 32 (λ e. omega arith),
      ne_eqb n 64 (λ e. omega arith),
      ne_eqb n 128 (λ e. omega arith),
      ne_eqb n 256 (λ e. omega arith),
      ne_eqb n 512 (λ e. omega arith),
      ne_eqb n 1024 (λ e. omega arith),
      ne_eqb n 2048 (λ e. omega arith),
      ne_eqb n 4096 (λ e. omega arith),
    )

-- What divides 4,096 is a power of two up to it, and nothing else.
pub alignments_are_powers : (n : ℕ) → is_alignment n ≡ is_power n
alignments_are_powers n = ⊎_elim (λ lt. agree_at 4097 n agreed lt) (λ ge. past_limit_lem n ge) (lt_or_ge n 4097)
