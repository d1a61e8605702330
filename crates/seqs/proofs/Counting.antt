-- Laws of `how_many` and `count`.
use mathlib.Core.Path.{◌≡◌, refl}
use mathlib.Core.Bool.{Bool, true, false, not, ◌&&◌}
use mathlib.Core.List.{List, [], ◌∷◌, ◌++◌}
use Prim.Native.Nat.{ℕ, zero, suc, ◌+◌, ◌≤◌}
use native.Mathlib.Numerals.{add-one}
use native.Mathlib.Omega.{arith}
use borrow.Author.Tests.{ne_eqb}
use lib.Dec.{eqb}
use lib.ListN.{length}
use Rattle.seqs.specs.Counting.{one, how_many, count}
use Rattle.seqs.specs.Every.{every}
use Rattle.std.specs.Int.{from_bool}
use Rattle.seqs.specs.Pick.{pick}

pub one_le : (t : Bool) → one t ≤ 1
unfolding pick
one_le true = omega arith
one_le false = omega arith

pub none_counted : (f : ℕ → Bool) → how_many f 0 ≡ 0
unfolding how_many
none_counted f = refl

pub one_counted : (f : ℕ → Bool) (i : ℕ) → how_many f (i + 1) ≡ how_many f i + one (f i)
unfolding how_many
one_counted f i = rw (add-one i)

pub how_many_le : (f : ℕ → Bool) (n : ℕ) → how_many f n ≤ n
unfolding how_many
how_many_le f zero = omega arith
how_many_le f (suc n) = omega (arith, how_many_le f n, one_le (f n))

module _ {A : Type 0} where
  pub count_append : (f : A → Bool) (xs ys : List A) → count f (xs ++ ys) ≡ count f xs + count f ys
  unfolding count
  count_append f [] ys = omega arith
  count_append f (x ∷ xs) ys = rw (count_append f xs ys) (omega arith)

  -- one entry more
  pub count_more : (f : A → Bool) (xs : List A) (x : A) → count f (xs ++ (x ∷ [])) ≡ count f xs + one (f x)
  unfolding count
  count_more f xs x = omega (arith, count_append f xs (x ∷ []))

  pub count_le : (f : A → Bool) (xs : List A) → count f xs ≤ length xs
  unfolding count
  count_le f [] = omega arith
  count_le f (x ∷ xs) = omega (arith, count_le f xs, one_le (f x))

  pub count_same : (f g : A → Bool) → ((x : A) → f x ≡ g x) → (xs : List A) → count f xs ≡ count g xs
  unfolding count
  count_same f g same [] = refl
  count_same f g same (x ∷ xs) = rw (same x, count_same f g same xs)

  -- a property that is one of two, never both
  pub count_sum : (f g h : A → Bool) → ((x : A) → one (f x) ≡ one (g x) + one (h x)) → (xs : List A) → count f xs ≡ count g xs + count h xs
  unfolding count
  count_sum f g h sums [] = refl
  count_sum f g h sums (x ∷ xs) = omega (arith, sums x, count_sum f g h sums xs)

  -- none has it just where every entry has it not
  pub count_none : (f : A → Bool) (xs : List A) → eqb (count f xs) 0 ≡ every (λ (x : A). not (f x)) xs
  unfolding count every pick
  count_none f [] = refl
  count_none f (x ∷ xs) = by (f x) (count f xs) (count_none f xs)
    where
      by : (t : Bool) (n : ℕ) → eqb n 0 ≡ every (λ (x : A). not (f x)) xs → eqb (one t + n) 0 ≡ (not t && every (λ (x : A). not (f x)) xs)
      by true n e = ne_eqb (1 + n) 0 (λ z. omega arith)
      by false n e = let z : 0 + n ≡ n = omega arith in rw z e

-- a test as a number
pub byte_one : (t : Bool) → from_bool t ≡ one t
unfolding pick
byte_one true = refl
byte_one false = refl
