-- What `&&` and `||` give.
use mathlib.Core.Path.{◌≡◌, refl}
use mathlib.Core.Bool.{Bool, true, false, not, ◌&&◌, ◌||◌}
use borrow.Author.Tests.{not-true, not-false}
use Prim.Native.Nat.{ℕ}
use native.Mathlib.Omega.{arith}

pub true_is_not_false : true ≡ false → ⊥
true_is_not_false h = let z : ◌≡◌ {A = ℕ} 0 1 = cc in omega arith

pub both_true : (a b : Bool) → (a && b) ≡ true → (a ≡ true) × (b ≡ true)
both_true true b h = (refl, h)
both_true false b h = absurd (true_is_not_false (cc))

pub both_false : (a b : Bool) → (a || b) ≡ false → (a ≡ false) × (b ≡ false)
both_false true b h = absurd (true_is_not_false h)
both_false false b h = (refl, h)

-- tests in a row: the first that fails decides
pub test_fails : {t a : Bool} (b : Bool) → t ≡ a → not t ≡ true → false ≡ (a && b)
test_fails {t} b e h = rw (← e, not-true t h)

pub test_holds_lem : {r t a b : Bool} → t ≡ a → not t ≡ false → r ≡ b → r ≡ (a && b)
test_holds_lem {r} {t} e h k = rw (← e, not-false t h) k

pub ruleset tests = (test_fails, test_holds_lem)
