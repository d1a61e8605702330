-- Tests in order: the first that holds decides. Document 01 lists its refusals so, lowest number first.
use Rattle.std.specs.Prelude.{Bool, true, false, List, [], ◌∷◌, ℕ, zero, suc, eqb}

-- x where the test holds, else y. It stays shut, so that a chain is never unfolded as a whole.
unfoldable pub pick : {A : Type 0} → Bool → A → A → A
pick true x y = x
pick false x y = y

-- the number of the first test that holds; 0 where none does
abbrev pub first : List (Bool × ℕ) → ℕ
first [] = 0
first (t ∷ ts) = pick t.0 t.1 (first ts)

-- n, or the second where n is 0
abbrev pub or_else : ℕ → ℕ → ℕ
or_else n m = pick (eqb n 0) m n

-- the first of f 0, f 1, .. f (n - 1) that is not 0; 0 where none is
unfoldable pub first_of : (ℕ → ℕ) → ℕ → ℕ
first_of f zero = 0
first_of f (suc n) = or_else (first_of f n) (f n)
