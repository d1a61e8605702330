-- A kind that is none of those with a type has none.
use Rattle.std.proofs.Common.{◌≡◌, ℕ, zero, suc, ◌≢◌, List, [], ◌∷◌, get_or, set, replicate, sym, refl, ap, ◌∙◌, get_or-set_other}
use Rattle.elf.specs.Elf.{no_type, x64_types, a64_types}

-- a list of numbers with 0 at each of these places
abbrev pub cleared : List ℕ → List ℕ → List ℕ
cleared [] l = l
cleared (i ∷ is) l = cleared is (set l i 0)

abbrev pub Apart : ℕ → List ℕ → Type 0
Apart k [] = Unit {0}
Apart k (i ∷ is) = (k ≢ i) × Apart k is

zeros : (n k : ℕ) → ◌≡◌ {A = ℕ} (get_or (replicate n 0) k 0) 0
zeros zero k = refl
zeros (suc n) zero = refl
zeros (suc n) (suc k) = zeros n k

-- elsewhere the list has what it had
elsewhere : (is l : List ℕ) (k : ℕ) → Apart k is → get_or l k 0 ≡ get_or (cleared is l) k 0
elsewhere [] l k h = refl
elsewhere (i ∷ is) l k h = sym (get_or-set_other l i k 0 0 h.0) ∙ elsewhere is (set l i 0) k h.1

pub untyped : (is : List ℕ) (n : ℕ) (l : List ℕ) (k : ℕ) → Apart k is → cleared is l ≡ replicate n 0 → get_or l k 0 ≡ 0
untyped is n l k h e = elsewhere is l k h ∙ ap (λ (x : List ℕ). get_or x k 0) e ∙ zeros n k

pub x64_untyped : {k : ℕ} → k ≢ 0 → k ≢ 1 → k ≢ 2 → k ≢ 3 → k ≢ 4 → k ≢ 5 → k ≢ 9 → 0 ≡ get_or x64_types k no_type
x64_untyped {k} abs4 abs8 pc call plt got tls = sym (untyped (0 ∷ 1 ∷ 2 ∷ 3 ∷ 4 ∷ 5 ∷ 9 ∷ []) 28 x64_types k (abs4, (abs8, (pc, (call, (plt, (got, (tls, tt))))))) refl)

pub a64_untyped : {k : ℕ} → k ≢ 0 → k ≢ 1 → k ≢ 8 → k ≢ 19 → k ≢ 20 → 0 ≡ get_or a64_types k no_type
a64_untyped {k} abs4 abs8 call page low12 = sym (untyped (0 ∷ 1 ∷ 8 ∷ 19 ∷ 20 ∷ []) 28 a64_types k (abs4, (abs8, (call, (page, (low12, tt))))) refl)
