-- What `all` and `any` answer over a range, where the closure computes a test of the number.
use mathlib.Core.Path.{◌≡◌, refl, sym, ap, ◌∙◌}
use mathlib.Core.Bool.{Bool, true, false, not, ◌&&◌, ◌||◌}
use mathlib.Core.List.{List, [], ◌∷◌}
use Prim.Native.Nat.{ℕ, zero, suc, ◌+◌}
use native.Mathlib.Omega.{arith}
use denote.Param.Members.{Mut}
use Rattle.std.specs.Fn.{Called}
use Rattle.std.specs.Iterator.{ChecksAll, ChecksAny}
use Rattle.std.specs.List.{list_all, list_any, range_with_len}
use Rattle.std.proofs.iter.Yields.{nat_range_steps}
use Rattle.std.proofs.lemmas.Iterator.{YieldsList-from_range}
use Rattle.std.proofs.lemmas.Iterator.Search.{all_from_yields_List, any_from_yields_List}
use Rattle.seqs.specs.Every.{all}
use Rattle.seqs.proofs.Every.{all_first, all_same}

all_from : (test : ℕ → Bool) (a n : ℕ) → list_all test (range_with_len a n) ≡ all (λ (i : ℕ). test (a + i)) n
unfolding all
all_from test a zero = refl
all_from test a (suc n) =
    let here : test a ≡ test (a + 0) = ap test (omega arith) in
    let rest : all (λ (i : ℕ). test (a + 1 + i)) n ≡ all (λ (i : ℕ). test (a + suc i)) n = all_same _ _ n (λ i l. ap test (omega arith)) in
    ap (λ (t : Bool). test a && t) (all_from test (a + 1) n ∙ rest) ∙ ap (λ (t : Bool). t && all (λ (i : ℕ). test (a + suc i)) n) here ∙ sym (all_first (λ (i : ℕ). test (a + i)) n)

all_from_zero : (test : ℕ → Bool) (n : ℕ) → list_all test (range_with_len 0 n) ≡ all test n
all_from_zero test n = all_from test 0 n ∙ all_same _ _ n (λ i l. ap test (omega arith))

-- `all` over a range
pub all_of_range : {F : Type 0} {g : Mut F (ℕ × Unit {0}) Bool} (test : ℕ → Bool) (n : ℕ) {u : _} {f : F} {r : Bool} → ChecksAll nat_range_steps g (record { start = 0; end = n }) f r u → ((x : ℕ) (b : Bool) (q : F) → Called g f (x, tt) b q → (q ≡ f) × (b ≡ test x)) → r ≡ all test n
all_of_range test n {u} {f} {r} ran each = all_from_yields_List test u f r ran (YieldsList-from_range 0 n n refl (omega arith)) each ∙ all_from_zero test n

any_none : (test : ℕ → Bool) (xs : List ℕ) → list_any test xs ≡ not (list_all (λ (i : ℕ). not (test i)) xs)
any_none test [] = refl
any_none test (x ∷ xs) = by (test x) _ (any_none test xs)
  where
    by : (t : Bool) {s : Bool} (u : Bool) → s ≡ not u → (t || s) ≡ not (not t && u)
    by true u h = refl
    by false u h = h

-- `any` over a range
pub any_of_range : {F : Type 0} {g : Mut F (ℕ × Unit {0}) Bool} (test : ℕ → Bool) (n : ℕ) {u : _} {f : F} {r : Bool} → ChecksAny nat_range_steps g (record { start = 0; end = n }) f r u → ((x : ℕ) (b : Bool) (q : F) → Called g f (x, tt) b q → (q ≡ f) × (b ≡ test x)) → r ≡ not (all (λ (i : ℕ). not (test i)) n)
any_of_range test n {u} {f} {r} ran each =
    any_from_yields_List test u f r ran (YieldsList-from_range 0 n n refl (omega arith)) each ∙ any_none test (range_with_len 0 n) ∙ ap not (all_from_zero (λ (i : ℕ). not (test i)) n)
