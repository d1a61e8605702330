-- Whether events make finish lay out, list by list.
use mathlib.Core.Path.{◌≡◌, refl, ◌∙◌, ap}
use mathlib.Core.Bool.{Bool, true, false, ◌||◌}
use mathlib.Core.List.{List, [], ◌∷◌, ◌++◌}
use Prim.Native.Nat.{ℕ, zero, suc, ◌<◌}
use native.Mathlib.Omega.{arith}
use Rattle.relax.specs.declared.LayoutEvent.{LayoutEvent}
use Rattle.recording.specs.View.{entries}
use Rattle.fresh.specs.Forms.{is_moving, moves}

or_assoc : (a b c : Bool) → (a || (b || c)) ≡ ((a || b) || c)
or_assoc true b c = refl
or_assoc false b c = refl

or_none : (a : Bool) → (a || false) ≡ a
or_none true = refl
or_none false = refl

or_one : (a : Bool) → (a || true) ≡ true
or_one true = refl
or_one false = refl

pub moves_append : (xs ys : List LayoutEvent) → moves (xs ++ ys) ≡ (moves xs || moves ys)
unfolding moves
moves_append [] ys = refl
moves_append (x ∷ xs) ys = ap (λ (t : Bool). is_moving x || t) (moves_append xs ys) ∙ or_assoc (is_moving x) (moves xs) (moves ys)

module _ (f : ℕ → LayoutEvent) where
  moves_more : (i : ℕ) → moves (entries f (suc i)) ≡ (moves (entries f i) || is_moving (f i))
  unfolding moves
  moves_more i = moves_append (entries f i) (f i ∷ []) ∙ ap (λ (t : Bool). moves (entries f i) || t) (or_none (is_moving (f i)))

  -- the events leave it as it is
  pub still_all : (n : ℕ) → ((i : ℕ) → i < n → is_moving (f i) ≡ false) → moves (entries f n) ≡ false
  unfolding moves
  still_all zero h = refl
  still_all (suc n) h = moves_more n ∙ rw (still_all n (λ i l. h i (omega arith)), h n (omega arith))
