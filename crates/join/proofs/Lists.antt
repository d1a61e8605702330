-- Laws of lists and numbers that joining needs and that speak of no piece.
use Rattle.std.proofs.Common.{◌≡◌, ℕ, zero, suc, ◌+◌, ◌*◌, ◌<◌, ◌≤◌, Bool, List, [], ◌∷◌, ◌++◌, length, get_or, set, replicate, sym, refl, ap, ◌∙◌, ⊎_elim, not-suc-le-zero, arith}
use Rattle.seqs.specs.Counting.{how_many}
use Rattle.seqs.specs.Over.{over}
use Rattle.seqs.specs.Pick.{or_else}
use Rattle.seqs.proofs.Numbers.{lt_or_ge, eq_or_ne}
use Rattle.seqs.proofs.Overwrites.{over_append}
use Rattle.seqs.proofs.Picking.{yes_eq, no_eq}
use Rattle.words.specs.Words.{bytes_of_all}
use Rattle.words.proofs.Entries.{bytes_of_all_append, length_bytes_of_all}

-- 0 beside a number, and before one
pub or_none : (n : ℕ) → or_else n 0 ≡ n
or_none n = ⊎_elim (λ (z : n ≡ 0). yes_eq n 0 0 n z ∙ sym z) (λ nz. no_eq n 0 0 n nz) (eq_or_ne n 0)

pub none_or : (n m : ℕ) → n ≡ 0 → or_else n m ≡ m
none_or n m z = yes_eq n 0 m n z

-- a write past the end changes nothing
pub set_past : {A : Type 0} (xs : List A) (i : ℕ) (v : A) → length xs ≤ i → xs ≡ set xs i v
set_past [] i v h = refl
set_past (x ∷ xs) zero v h = absurd (not-suc-le-zero h)
set_past (x ∷ xs) (suc i) v h = ap (λ l. x ∷ l) (set_past xs i v (omega arith))

-- zeros are zeros
pub zero_at : (m i : ℕ) → ◌≡◌ {A = ℕ} (get_or (replicate m 0) i 0) 0
zero_at zero i = refl
zero_at (suc m) zero = refl
zero_at (suc m) (suc i) = zero_at m i

-- one list written over another of its length
pub over_again : (xs : List ℕ) (at : ℕ) (ys zs : List ℕ) → length ys ≡ length zs → over (over xs at ys) at zs ≡ over xs at zs
unfolding over
over_again [] at ys zs e = refl
over_again (x ∷ xs) zero [] [] e = refl
over_again (x ∷ xs) zero (y ∷ ys) (z ∷ zs) e = ap (λ (l : List ℕ). z ∷ l) (over_again xs zero ys zs (omega (arith, e)))
over_again (x ∷ xs) zero [] (z ∷ zs) e = absurd (not-suc-le-zero {n = length zs} (omega (arith, e)))
over_again (x ∷ xs) zero (y ∷ ys) [] e = absurd (not-suc-le-zero {n = length ys} (omega (arith, e)))
over_again (x ∷ xs) (suc at) ys zs e = ap (λ (l : List ℕ). x ∷ l) (over_again xs at ys zs e)

-- Words written from word a on, and then those that follow.
pub words_follow : (t : List ℕ) (a : ℕ) (vs ws : List ℕ)
    → over (over t (a * 4) (bytes_of_all vs)) ((a + length vs) * 4) (bytes_of_all ws) ≡ over t (a * 4) (bytes_of_all (vs ++ ws))
words_follow t a vs ws =
    let at : (a + length vs) * 4 ≡ a * 4 + length (bytes_of_all vs) = omega (arith, length_bytes_of_all vs) in
    ap (λ (n : ℕ). over (over t (a * 4) (bytes_of_all vs)) n (bytes_of_all ws)) at
    ∙ over_append t (a * 4) (bytes_of_all vs) (bytes_of_all ws)
    ∙ ap (over t (a * 4)) (sym (bytes_of_all_append vs ws))

-- more numbers, no fewer that have a property
pub how_many_grows : (f : ℕ → Bool) (j m : ℕ) → j ≤ m → how_many f j ≤ how_many f m
unfolding how_many
how_many_grows f j zero within = let none : j ≡ zero = omega arith in rw none (omega arith)
how_many_grows f j (suc m) within =
    ⊎_elim
    (λ (before : j < suc m). omega (arith, how_many_grows f j m (omega arith)))
    (λ (ge : suc m ≤ j).
    let same : j ≡ suc m = omega arith in rw same (omega arith))
    (lt_or_ge j (suc m))
