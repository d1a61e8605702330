-- A search by halving among rising numbers finds how many of them lie before a bound.
use Rattle.std.proofs.Common.{◌≡◌, ℕ, Bool, true, false, ◌+◌, ◌-◌, ◌≤◌, ◌<◌, sym, ⊎_elim, arith}
use lib.Dec.{ltb, leb}
use borrow.Author.Tests.{ltb-true, ltb-false, leb-true, leb-false}
use Rattle.seqs.proofs.Numbers.{lt_or_ge}
use Rattle.lookup.specs.steps.Index.{Rises, Parted}

-- of n numbers those before r lie below a bound, and no other does
pub record Divided (key : ℕ → ℕ) (n bound r : ℕ) : Type 0 where
  pub below : (j : ℕ) → j < r → key j < bound
  pub above : (j : ℕ) → r ≤ j → j < n → bound ≤ key j

module _ {answered : ℕ → Bool → Type 0} {key : ℕ → ℕ} {n bound low high r : ℕ} (rises : Rises key n) (within : high ≤ n) (p : Parted answered low high r)
    (before : (j : ℕ) → j < low → key j < bound) (after : (j : ℕ) → high ≤ j → j < n → bound ≤ key j) where
  divided : ((i : ℕ) → answered i true → key i < bound) → ((i : ℕ) → answered i false → bound ≤ key i) → Divided key n bound r
  divided told_yes told_no = record {
    below = λ j l.
        ⊎_elim
        (λ k. before j k)
        (λ (k : low ≤ j). omega (arith, rises.rises j (r - 1) (omega arith) (omega (arith, p.last)), told_yes (r - 1) (p.before (omega arith))))
        (lt_or_ge j low);
    above = λ j l k.
        ⊎_elim
        (λ (m : j < high). omega (arith, rises.rises r j l k, told_no r (p.after (omega arith))))
        (λ m. after j m k)
        (lt_or_ge j high);
  }

  -- where the test is whether a number lies below the bound
  pub divided_below : ((i : ℕ) (b : Bool) → answered i b → b ≡ ltb (key i) bound) → Divided key n bound r
  divided_below computes = divided (λ i a. ltb-true _ _ (sym (computes i true a))) (λ i a. ltb-false _ _ (sym (computes i false a)))

-- where the test is whether a number is the bound at most
pub divided_most : {answered : ℕ → Bool → Type 0} {key : ℕ → ℕ} {n most low high r : ℕ} → Rises key n → high ≤ n → Parted answered low high r
    → ((j : ℕ) → j < low → key j ≤ most) → ((j : ℕ) → high ≤ j → j < n → most < key j) → ((i : ℕ) (b : Bool) → answered i b → b ≡ leb (key i) most)
    → Divided key n (most + 1) r
divided_most {most = most} rises within p before after computes =
    divided rises within p (λ j l. omega (arith, before j l)) (λ j l k. omega (arith, after j l k))
    (λ i a. omega (arith, leb-true _ most (sym (computes i true a))))
    (λ i a. omega (arith, leb-false _ most (sym (computes i false a))))
