-- Cases on a test, and on an event's role.
use mathlib.Core.Path.{◌≡◌, refl, sym}
use mathlib.Core.Bool.{Bool, true, false}
use Rattle.seqs.proofs.Booleans.{true_is_not_false}
use Rattle.relax.specs.declared.LayoutEvent.{LayoutEvent}
use Rattle.fresh.specs.Forms.{Branch, Role, pads, branches, role_of}

-- each case with its equation
pub split : {P : Type 0} (t : Bool) → (t ≡ true → P) → (t ≡ false → P) → P
split true f g = f refl
split false f g = g refl

pub no_confusion : {P : Type 0} → false ≡ true → P
no_confusion e = absurd (true_is_not_false (sym e))

-- each role of an event with its equation
pub by_role : {P : Type 0} (e : LayoutEvent) → (role_of e ≡ pads → P) → ((b : Branch) → role_of e ≡ branches b → P) → P
by_role {P = P} e f g = go (role_of e) refl
  where
    go : (r : Role) → role_of e ≡ r → P
    go pads h = f h
    go (branches b) h = g b h
