-- Demand 1: a refused finish changes neither recording nor output.
use mathlib.Core.Path.{◌≡◌, refl}
use mathlib.Core.Logic.{◌≢◌}
use mathlib.Core.Bool.{Bool, true, false}
use mathlib.Core.List.{List}
use Prim.Native.Nat.{ℕ}
use borrow.Author.Tests.{eqb-false}
use lib.Dec.{eqb}
use lib.ListN.{length}
use Rattle.seqs.specs.Pick.{pick}
use Rattle.words.specs.Words.{over_words}
use Rattle.relax.specs.declared.Segment.{Segment}
use Rattle.recording.specs.Calls.{Recording}
use Rattle.recording.specs.View.{view}
use Rattle.fresh.specs.Pooled.{pooled}
use Rattle.finish.specs.Refusals.{all_bound, why_unfit}
use Rattle.finish.specs.Finish.{Finished, Left, placed_by, finish}
use Rattle.finish.proofs.WholeFinish.{LeftAlone, stages_refused}
use Rattle.demands.specs.Demand1.{Unchanged}

picks : (Q : Finished × Left → Type 0) (s t : Bool) (x y z : Finished × Left) → x.0.refusal ≡ 0 → (t ≡ false → Q y) → Q z
    → (pick s (pick t x y) z).0.refusal ≢ 0 → Q (pick s (pick t x y) z)
unfolding pick
picks Q true true x y z a b c ne = absurd (ne a)
picks Q true false x y z a b c ne = b refl
picks Q false t x y z a b c ne = c

placed_alone : (r : Recording) (ss : List Segment) (output : List ℕ)
    → (placed_by (pooled r.buffer.arch (view r)) r ss output).0.refusal ≢ 0
    → LeftAlone (over_words r.labels (pooled r.buffer.arch (view r)).labels) r.relocs output (placed_by (pooled r.buffer.arch (view r)) r ss output).1
unfolding placed_by
placed_alone r ss output ne =
    let p = pooled r.buffer.arch (view r) in
    stages_refused (all_bound p (view r).relocs) p r.buffer.relocs (over_words r.labels p.labels) r.relocs ss output ne

-- A refused finish hands back the counts as they were, a record of zeros, and labels, relocations and output as they were.
pub refused_finish_changes_nothing : (r : Recording) (ss : List Segment) (output : List ℕ) → (finish r ss output).0.refusal ≢ 0
    → Unchanged r output (finish r ss output)
unfolding finish
refused_finish_changes_nothing r ss output ne =
    let placed = placed_by (pooled r.buffer.arch (view r)) r ss output in
    picks (Unchanged r output) (eqb (why_unfit r (length ss) (length output)) 0) (eqb placed.0.refusal 0) _ _ _ refl
    (λ t.
    let alone = placed_alone r ss output (eqb-false placed.0.refusal 0 t) in
    record { counts = refl; given = refl; labels = refl; relocs = alone.1; written = alone.2 })
    (record { counts = refl; given = refl; labels = refl; relocs = refl; written = refl })
    ne
