-- Laws of `all` and `every`.
use mathlib.Core.Path.{◌≡◌, refl, sym, ap, ◌∙◌}
use mathlib.Core.Logic.{⊎_elim}
use mathlib.Core.Bool.{Bool, true, false, ◌&&◌, and-true, and_assoc}
use mathlib.Core.List.{List, [], ◌∷◌, ◌++◌}
use Prim.Native.Nat.{ℕ, zero, suc, ◌+◌, ◌<◌}
use native.Mathlib.Nat.{not-suc-le-zero}
use native.Mathlib.Numerals.{add-one}
use native.Mathlib.Omega.{arith}
use lib.ListN.{length, get_or}
use Rattle.seqs.specs.Every.{every, all}
use Rattle.seqs.proofs.Numbers.{eq_or_ne}
use Rattle.seqs.proofs.Booleans.{both_true, true_is_not_false}

pub all_none : (f : ℕ → Bool) → all f 0 ≡ true
unfolding all
all_none f = refl

pub all_step : (f : ℕ → Bool) (i : ℕ) → all f i ≡ true → f i ≡ true → all f (i + 1) ≡ true
unfolding all
all_step f i h e = rw (add-one i, h, e)

pub all_of : (f : ℕ → Bool) (n : ℕ) → ((i : ℕ) → i < n → f i ≡ true) → all f n ≡ true
unfolding all
all_of f zero h = refl
all_of f (suc n) h = rw (all_of f n (λ i l. h i (omega arith)), h n (omega arith))

pub all_at : (f : ℕ → Bool) (n i : ℕ) → all f n ≡ true → i < n → f i ≡ true
unfolding all
all_at f zero i h l = absurd (not-suc-le-zero l)
all_at f (suc n) i h l =
    let b = both_true (all f n) (f n) h in
    ⊎_elim (λ (same : i ≡ n). rw same b.1) (λ other. all_at f n i b.0 (omega arith)) (eq_or_ne i n)

false_by : (t : Bool) → (t ≡ true → ⊥) → t ≡ false
false_by true h = absurd (h refl)
false_by false h = refl

pub all_fails : (f : ℕ → Bool) (n i : ℕ) → i < n → f i ≡ false → all f n ≡ false
all_fails f n i l e = false_by (all f n) (λ h. true_is_not_false (sym (all_at f n i h l) ∙ e))

-- a scan that fails has met an entry that does
abbrev pub Failing : (ℕ → Bool) → ℕ → Type 0
Failing f n = (i : ℕ) × (i < n) × (f i ≡ false)

not_by : (f : ℕ → Bool) (n : ℕ) (t : Bool) → (t ≡ false → Failing f n) → (t && f n) ≡ false → Failing f (suc n)
not_by f n true w p = (n, omega arith, p)
not_by f n false w p = let x = w refl in (x.0, omega (arith, x.1), x.2)

pub all_not : (f : ℕ → Bool) (n : ℕ) → all f n ≡ false → Failing f n
unfolding all
all_not f zero h = absurd (true_is_not_false h)
all_not f (suc n) h = not_by f n (all f n) (λ e. all_not f n e) h

pub all_same : (f g : ℕ → Bool) (n : ℕ) → ((i : ℕ) → i < n → f i ≡ g i) → all f n ≡ all g n
unfolding all
all_same f g zero h = refl
all_same f g (suc n) h = rw (all_same f g n (λ i l. h i (omega arith)), h n (omega arith))

four : (a b c d : Bool) → (a && b && (c && d)) ≡ (a && c && (b && d))
four true true c d = refl
four true false true d = refl
four true false false d = refl
four false b c d = refl

pub all_both : (f g : ℕ → Bool) (n : ℕ) → all (λ (i : ℕ). f i && g i) n ≡ (all f n && all g n)
unfolding all
all_both f g zero = refl
all_both f g (suc n) = rw (all_both f g n) (four (all f n) (all g n) (f n) (g n))

pub all_first : (f : ℕ → Bool) (n : ℕ) → all f (suc n) ≡ (f 0 && all (λ (i : ℕ). f (suc i)) n)
unfolding all
all_first f zero = sym (and-true (f 0))
all_first f (suc n) = rw (all_first f n) (and_assoc (f 0) (all (λ (i : ℕ). f (suc i)) n) (f (suc n)))

-- a list is tested by its indexes
pub every_all : {A : Type 0} (f : A → Bool) (xs : List A) (d : A) → every f xs ≡ all (λ (i : ℕ). f (get_or xs i d)) (length xs)
unfolding every all
every_all f [] d = refl
every_all f (x ∷ xs) d = ap (λ (t : Bool). f x && t) (every_all f xs d) ∙ sym (all_first (λ (i : ℕ). f (get_or (x ∷ xs) i d)) (length xs))

pub every_at : {A : Type 0} (f : A → Bool) (xs : List A) (d : A) → every f xs ≡ true → (i : ℕ) → i < length xs → f (get_or xs i d) ≡ true
every_at f xs d h i k = all_at (λ (j : ℕ). f (get_or xs j d)) (length xs) i (sym (every_all f xs d) ∙ h) k

pub every_append : {A : Type 0} (f : A → Bool) (xs ys : List A) → every f (xs ++ ys) ≡ (every f xs && every f ys)
unfolding every
every_append f [] ys = refl
every_append f (x ∷ xs) ys = rw (every_append f xs ys) (sym (and_assoc (f x) (every f xs) (every f ys)))
