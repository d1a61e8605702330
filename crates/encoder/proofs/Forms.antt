-- The nine forms: their lengths, and the rows of the code's table that start with them.
use Rattle.std.proofs.Common.{◌≡◌, ℕ, ◌-◌, ◌≤◌, List, [], ◌++◌, map, length, get_or, take, replicate, refl, arith, below_none, below_more}
use Rattle.encoder.specs.Nops.{forms, form}

-- What holds at 0 to 9 holds at each number up to 9.
pub up_to_9 : (P : ℕ → Type 0) → P 0 → P 1 → P 2 → P 3 → P 4 → P 5 → P 6 → P 7 → P 8 → P 9 → (n : ℕ) → n ≤ 9 → P n
up_to_9 P p₀ p₁ p₂ p₃ p₄ p₅ p₆ p₇ p₈ p₉ n h =
    let more = below_more P in
    more 9 (more 8 (more 7 (more 6 (more 5 (more 4 (more 3 (more 2 (more 1 (more 0 (below_none P) p₀) p₁) p₂) p₃) p₄) p₅) p₆) p₇) p₈) p₉ n
    (omega arith)

-- `form n` is n bytes.
pub form_length : (n : ℕ) → n ≤ 9 → length (form n) ≡ n
unfolding form
form_length = up_to_9 (λ n. length (form n) ≡ n) refl refl refl refl refl refl refl refl refl refl

-- What the code's table has to be: in row n - 1 the form of n bytes, and 0 for its rest.
abbrev pub rows : List (List ℕ)
rows = map (λ f. take 9 (f ++ replicate 9 0)) forms

pub row_length : (n : ℕ) → n ≤ 9 → length (get_or rows (n - 1) []) ≡ 9
row_length = up_to_9 (λ n. length (get_or rows (n - 1) []) ≡ 9) refl refl refl refl refl refl refl refl refl refl

pub row_form : (n : ℕ) → n ≤ 9 → take n (get_or rows (n - 1) []) ≡ form n
unfolding form
row_form = up_to_9 (λ n. take n (get_or rows (n - 1) []) ≡ form n) refl refl refl refl refl refl refl refl refl refl
