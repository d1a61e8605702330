-- Laws of `pick`: what a test that came out gives, and what follows from the answer 0.
use mathlib.Core.Path.{◌≡◌, refl}
use mathlib.Core.Logic.{◌≢◌}
use mathlib.Core.Bool.{Bool, true, false, not}
use Prim.Native.Nat.{ℕ, ◌≤◌, ◌<◌}
use lib.Dec.{ltb, leb, eqb}
use borrow.Author.Tests.{lt-ltb, le-ltb, le-leb, lt-leb, eq-eqb, ne_eqb, eqb-true, eqb-false}
use Rattle.seqs.specs.Pick.{pick, or_else}

module _ {A : Type 0} where
  pub pick_yes : (t : Bool) (x y : A) → t ≡ true → pick t x y ≡ x
  unfolding pick
  pick_yes t x y e = rw e

  pub pick_no : (t : Bool) (x y : A) → t ≡ false → pick t x y ≡ y
  unfolding pick
  pick_no t x y e = rw e

  pub pick_either : (P : A → Type 0) (t : Bool) (x y : A) → P x → P y → P (pick t x y)
  unfolding pick
  pick_either P true x y a b = a
  pick_either P false x y a b = b

  pub yes_lt : (a b : ℕ) (x y : A) → a < b → pick (ltb a b) x y ≡ x
  yes_lt a b x y h = pick_yes (ltb a b) x y (lt-ltb a b h)

  pub no_lt : (a b : ℕ) (x y : A) → b ≤ a → pick (ltb a b) x y ≡ y
  no_lt a b x y h = pick_no (ltb a b) x y (le-ltb a b h)

  pub yes_le : (a b : ℕ) (x y : A) → a ≤ b → pick (leb a b) x y ≡ x
  yes_le a b x y h = pick_yes (leb a b) x y (le-leb a b h)

  pub no_le : (a b : ℕ) (x y : A) → b < a → pick (leb a b) x y ≡ y
  no_le a b x y h = pick_no (leb a b) x y (lt-leb a b h)

  pub yes_eq : (a b : ℕ) (x y : A) → a ≡ b → pick (eqb a b) x y ≡ x
  yes_eq a b x y h = pick_yes (eqb a b) x y (eq-eqb a b h)

  pub no_eq : (a b : ℕ) (x y : A) → a ≢ b → pick (eqb a b) x y ≡ y
  no_eq a b x y h = pick_no (eqb a b) x y (ne_eqb a b h)

  pub yes_ne : (a b : ℕ) (x y : A) → a ≢ b → pick (not (eqb a b)) x y ≡ x
  yes_ne a b x y h = pick_yes (not (eqb a b)) x y (rw (ne_eqb a b h))

  pub no_ne : (a b : ℕ) (x y : A) → a ≡ b → pick (not (eqb a b)) x y ≡ y
  no_ne a b x y h = pick_no (not (eqb a b)) x y (rw (eq-eqb a b h))

  pub yes_not : (t : Bool) (x y : A) → t ≡ false → pick (not t) x y ≡ x
  yes_not t x y h = pick_yes (not t) x y (rw h)

  pub no_not : (t : Bool) (x y : A) → t ≡ true → pick (not t) x y ≡ y
  no_not t x y h = pick_no (not t) x y (rw h)

-- a chain of tests is followed by these: each is put where its premise, the fact of a branch, is found
pub ruleset picks = (yes_lt, no_lt, yes_le, no_le, yes_eq, no_eq, yes_ne, no_ne, pick_yes, pick_no)

-- a chain that answers 0 passed its first test
pub passed : (t : Bool) (n rest : ℕ) → n ≢ 0 → pick t n rest ≡ 0 → (t ≡ false) × (rest ≡ 0)
unfolding pick
passed true n rest h e = absurd (h e)
passed false n rest h e = (refl, e)

-- both answered 0
pub neither : (n m : ℕ) → or_else n m ≡ 0 → (n ≡ 0) × (m ≡ 0)
unfolding pick
neither n m e = by (eqb n 0) refl e
  where
    by : (t : Bool) → eqb n 0 ≡ t → pick t m n ≡ 0 → (n ≡ 0) × (m ≡ 0)
    by true q p = (eqb-true n 0 q, p)
    by false q p = absurd (eqb-false n 0 q p)

-- a test that answers a number where it is not 0
pub zero_passed : (n rest : ℕ) → pick (not (eqb n 0)) n rest ≡ 0 → (n ≡ 0) × (rest ≡ 0)
unfolding pick
zero_passed n rest e = by (eqb n 0) refl e
  where
    by : (t : Bool) → eqb n 0 ≡ t → pick (not t) n rest ≡ 0 → (n ≡ 0) × (rest ≡ 0)
    by true q p = (eqb-true n 0 q, p)
    by false q p = absurd (eqb-false n 0 q p)
