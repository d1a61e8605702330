-- A sheet makes calls and nothing else: what holds of every sequence of calls holds of what a sheet leaves.
use mathlib.Core.Path.{◌≡◌, refl}
use mathlib.Core.Bool.{Bool, true, false}
use mathlib.Core.List.{List, [], ◌∷◌}
use Prim.Native.Nat.{ℕ, suc}
use lib.Dec.{eqb}
use Rattle.seqs.specs.Pick.{pick}
use Rattle.recording.specs.Calls.{Recording, Call, answered, after, after_all}
use Rattle.sheet.specs.Run.{run_calls, run_sheet}

-- some calls, in order, lead from one recording to another
abbrev pub Made : Recording → Recording → Type 0
Made r end = (cs : List Call) × (end ≡ after_all cs r)

-- whichever of two outcomes a test picks, calls made it
either_made : (t : Bool) (r : Recording) (x y : (ℕ × ℕ) × Recording) → Made r x.1 → Made r y.1 → Made r (pick t x y).1
unfolding pick
either_made true r x y p q = p
either_made false r x y p q = q

run_makes : (cs : List Call) (i : ℕ) (r : Recording) → Made r (run_calls cs i r).1
unfolding run_calls
run_makes [] i r = ([], refl)
run_makes (c ∷ cs) i r =
    let rest = run_makes cs (suc i) (after c r) in
    either_made (eqb (answered c r) 0) r (run_calls cs (suc i) (after c r)) ((answered c r, i), after c r) (c ∷ rest.0, rest.1) (c ∷ [], refl)

pub sheet_makes_calls : (sheet : List ℕ) (r : Recording) → Made r (run_sheet sheet r).1
unfolding run_sheet
sheet_makes_calls sheet r = either_made _ r _ _ (either_made _ r _ _ ([], refl) (either_made _ r _ _ (run_makes _ 0 r) ([], refl))) ([], refl)
