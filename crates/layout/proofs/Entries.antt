-- Lists read from a table, entry by entry.
use mathlib.Core.Path.{◌≡◌, sym, ◌∙◌, ap}
use mathlib.Core.List.{[], ◌∷◌, ◌++◌, append_assoc, append-nil}
use Prim.Native.Nat.{ℕ, zero, suc, ◌+◌}
use native.Mathlib.Omega.{arith}
use Rattle.recording.specs.View.{entries}

-- those before entry i, and the rest
pub entries_split : {A : Type 0} (f : ℕ → A) (i k : ℕ) → entries f (i + k) ≡ entries f i ++ entries (λ (j : ℕ). f (i + j)) k
entries_split f i zero = let e : i + 0 ≡ i = omega arith in ap (λ (n : ℕ). entries f n) e ∙ sym (append-nil (entries f i))
entries_split f i (suc k) =
    let e : i + suc k ≡ suc (i + k) = omega arith in
    ap (λ (n : ℕ). entries f n) e ∙ rw (entries_split f i k) (append_assoc (entries f i) (entries (λ (j : ℕ). f (i + j)) k) (f (i + k) ∷ []))
