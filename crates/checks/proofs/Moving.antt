-- An event that makes finish lay out anew, as a test of every entry finds it.
use mathlib.Core.Path.{◌≡◌, refl, sym, ◌∙◌}
use mathlib.Core.Bool.{Bool, true, false, not, ◌&&◌, ◌||◌}
use mathlib.Core.List.{[], ◌∷◌}
use Prim.Native.Nat.{ℕ, zero, suc}
use Rattle.relax.specs.declared.LayoutEvent.{LayoutEvent}
use Rattle.recording.specs.View.{entries}
use Rattle.seqs.specs.Every.{all}
use Rattle.fresh.specs.Forms.{is_moving, moves}
use Rattle.fresh.proofs.Moves.{moves_append}

one_more : (t m : Bool) {v : Bool} → not t ≡ v → not (t && not m) ≡ (v || (m || false))
one_more true true e = rw (← e)
one_more true false e = rw (← e)
one_more false true e = rw (← e)
one_more false false e = rw (← e)

pub any_moves : (f : ℕ → LayoutEvent) (n : ℕ) → not (all (λ (i : ℕ). not (is_moving (f i))) n) ≡ moves (entries f n)
unfolding all moves
any_moves f zero = refl
any_moves f (suc n) =
    one_more (all (λ (i : ℕ). not (is_moving (f i))) n) (is_moving (f n)) (any_moves f n) ∙ sym (moves_append (entries f n) (f n ∷ []))
