-- What a write into a lent slice does to its contents.
use Rattle.std.specs.Prelude.{List, [], ◌∷◌, ℕ, zero, suc}

-- The list xs with ys in the place of what stands from index at on. What would lie past the end of xs is dropped, so the length stays.
unfoldable pub over : {A : Type 0} → List A → ℕ → List A → List A
over [] at ys = []
over (x ∷ xs) zero [] = x ∷ xs
over (x ∷ xs) zero (y ∷ ys) = y ∷ over xs zero ys
over (x ∷ xs) (suc at) ys = x ∷ over xs at ys
