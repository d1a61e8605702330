-- What a call's own tests answered decides what it leaves.
use mathlib.Core.Path.{◌≡◌, refl, sym, ◌∙◌}
use mathlib.Core.Bool.{Bool, true, false}
use mathlib.Core.Logic.{◌≢◌}
use Prim.Native.Nat.{ℕ, ◌≤◌}
use native.Mathlib.Omega.{arith}
use lib.Dec.{eqb}
use mir.Val.{bool_byte}
use Rattle.std.specs.Prelude.{Result, Ok, Err}
use Rattle.std.specs.Result.{is_ok}
use Rattle.seqs.specs.Pick.{pick}
use Rattle.seqs.specs.Counting.{one}
use Rattle.seqs.proofs.Picking.{yes_eq, no_eq}
use Rattle.refusals.specs.declared.Refusal.{Refusal}
use Rattle.refusals.specs.Answers.{number_of, answer_of}
use Rattle.refusals.proofs.Variants.{number_not_0}

-- the tests are past, or one refused
pub past : {A : Type 0} {n : ℕ} (x y : A) → 0 ≡ n → pick (eqb n 0) x y ≡ x
past {n = n} x y e = yes_eq n 0 x y (sym e)

pub down : {A : Type 0} {n : ℕ} (x y : A) (r : Refusal) → number_of r ≡ n → pick (eqb n 0) x y ≡ y
down {n = n} x y r e = no_eq n 0 x y (λ z. number_not_0 r (e ∙ z))

-- the same of an outcome
pub is_past : {A : Type 0} {n : ℕ} (o : Result A Refusal) → true ≡ is_ok o → answer_of o ≡ n → 0 ≡ n
is_past (Ok x) h e = e
is_past (Err r) h e = absurd (cc)

pub is_down : {A : Type 0} {n : ℕ} (o : Result A Refusal) → false ≡ is_ok o → answer_of o ≡ n → n ≢ 0
is_down (Ok x) h e = absurd (cc)
is_down (Err r) h e = λ z. number_not_0 r (e ∙ z)

-- a test as a number
pub byte_one : (t : Bool) → (bool_byte t ≡ one t) × (bool_byte t ≤ 1)
unfolding pick
byte_one true = (refl, omega arith)
byte_one false = (refl, omega arith)
