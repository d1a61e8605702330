-- A scan that stops at the first entry that fails, or at the first that is refused: what it has found at each turn.
use mathlib.Core.Path.{◌≡◌, refl, sym, ◌∙◌}
use mathlib.Core.Logic.{◌≢◌, ⊎_elim}
use mathlib.Core.Bool.{Bool, true, false, not}
use borrow.Author.Tests.{not-true, not-false}
use Prim.Native.Nat.{ℕ, zero, suc, ◌+◌, ◌≤◌, ◌<◌}
use native.Mathlib.Nat.{not-suc-le-zero}
use native.Mathlib.Numerals.{add-one}
use native.Mathlib.Omega.{arith}
use Rattle.seqs.specs.Every.{all}
use Rattle.seqs.specs.Pick.{first_of}
use Rattle.seqs.proofs.Every.{all_none, all_step, all_fails}
use Rattle.seqs.proofs.Numbers.{eq_or_ne}
use Rattle.seqs.proofs.Picking.{pick_either, yes_eq, no_eq, neither}

-- a scan that has passed the first i of n entries
pub record AllPassed (f : ℕ → Bool) (n i : ℕ) : Type 0 where
  pub within : i ≤ n
  pub holds : all f i ≡ true

-- before the first turn, after a turn that holds, at one that fails, and at the end
pub pass_none : (f : ℕ → Bool) (n : ℕ) → AllPassed f n 0
pass_none f n = record { within = omega arith; holds = all_none f }

pub pass_one : {f : ℕ → Bool} {n i : ℕ} {t : Bool} → AllPassed f n i → i < n → t ≡ f i → not t ≡ false → AllPassed f n (i + 1)
pass_one {f} {n} {i} {t} p l e h = record { within = omega arith; holds = all_step f i p.holds (sym e ∙ not-false t h) }

pub pass_fails : {f : ℕ → Bool} {n i : ℕ} {t : Bool} → AllPassed f n i → i < n → t ≡ f i → not t ≡ true → false ≡ all f n
pass_fails {f} {n} {i} {t} p l e h = sym (all_fails f n i l (sym e ∙ not-true t h))

pub pass_all : {f : ℕ → Bool} {n i : ℕ} → AllPassed f n i → n ≤ i → true ≡ all f n
pass_all {f} {n} {i} p l = let same : i ≡ n = omega (arith, p.within) in sym (rw same at p.holds)

pub ruleset scans = (pass_none, pass_one, pass_fails, pass_all)

-- a scan for the first refusal that has met none among the first i of n entries
pub record NoneRefused (f : ℕ → ℕ) (n i : ℕ) : Type 0 where
  pub within : i ≤ n
  pub none : first_of f i ≡ 0

-- before the first turn, after a turn that refuses nothing, at one that refuses, and at the end
pub refuse_none : (f : ℕ → ℕ) (n : ℕ) → NoneRefused f n 0
unfolding first_of
refuse_none f n = record { within = omega arith; none = refl }

pub refuse_next : {f : ℕ → ℕ} {n i why : ℕ} → NoneRefused f n i → i < n → why ≡ f i → why ≡ 0 → NoneRefused f n (i + 1)
unfolding first_of
refuse_next {f} {n} {i} s l e z = record { within = omega arith; none = rw (add-one i, s.none) (yes_eq 0 0 _ _ refl ∙ sym e ∙ z) }

first_met : (f : ℕ → ℕ) (n i why : ℕ) → i < n → first_of f i ≡ 0 → why ≡ f i → why ≢ 0 → why ≡ first_of f n
unfolding first_of
first_met f zero i why l h e z = absurd (not-suc-le-zero l)
first_met f (suc n) i why l h e z =
    ⊎_elim
    (λ (same : i ≡ n). e ∙ rw same (sym (yes_eq (first_of f n) 0 _ _ (rw same at h))))
    (λ other.
    let before = first_met f n i why (omega arith) h e z in
    before ∙ sym (no_eq (first_of f n) 0 _ _ (λ (q : first_of f n ≡ 0). z (before ∙ q))))
    (eq_or_ne i n)

pub refuse_first : {f : ℕ → ℕ} {n i why : ℕ} → NoneRefused f n i → i < n → why ≡ f i → why ≢ 0 → why ≡ first_of f n
refuse_first {f} {n} {i} {why} s l e z = first_met f n i why l s.none e z

pub refuse_end : {f : ℕ → ℕ} {n i : ℕ} → NoneRefused f n i → n ≤ i → 0 ≡ first_of f n
refuse_end {f} {n} {i} s l = let same : i ≡ n = omega (arith, s.within) in sym (rw same at s.none)

pub ruleset refusing = (refuse_none, refuse_next, refuse_first, refuse_end)

-- where none is refused, each is accepted
pub each_none : (f : ℕ → ℕ) (n : ℕ) → first_of f n ≡ 0 → (i : ℕ) → i < n → f i ≡ 0
unfolding first_of
each_none f zero h i l = absurd (not-suc-le-zero l)
each_none f (suc n) h i l =
    let both = neither (first_of f n) (f n) h in
    ⊎_elim (λ (same : i ≡ n). rw same both.1) (λ other. each_none f n both.0 i (omega arith)) (eq_or_ne i n)

-- the first is one of them, or 0
pub first_either : (P : ℕ → Type 0) (f : ℕ → ℕ) (n : ℕ) → P 0 → ((i : ℕ) → P (f i)) → P (first_of f n)
unfolding first_of
first_either P f zero none each = none
first_either P f (suc n) none each = pick_either P _ (f n) (first_of f n) (each n) (first_either P f n none each)
