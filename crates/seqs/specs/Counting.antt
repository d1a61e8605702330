-- How many have a property: of the numbers below a count, of the entries of a list. Of the entries of a table they agree: `count_entries`
-- (recording/proofs/Views).
use Rattle.std.specs.Prelude.{◌≡◌, Bool, List, [], ◌∷◌, ℕ, zero, suc, ◌+◌}
use Rattle.seqs.specs.Pick.{pick}

-- 1 where the test holds, else 0
abbrev pub one : Bool → ℕ
one t = pick t 1 0

-- how many of 0, 1, .. n - 1 have it
unfoldable pub how_many : (ℕ → Bool) → ℕ → ℕ
how_many f zero = 0
how_many f (suc n) = how_many f n + one (f n)

-- r of the numbers below n have the property that the answers tell
abbrev pub Counts : (ℕ → Bool → Type 0) → ℕ → ℕ → Type 0
Counts answered n r = (f : ℕ → Bool) → ((i : ℕ) (b : Bool) → answered i b → b ≡ f i) → r ≡ how_many f n

-- how many entries have it
unfoldable pub count : {A : Type 0} → (A → Bool) → List A → ℕ
count f [] = 0
count f (x ∷ xs) = one (f x) + count f xs
