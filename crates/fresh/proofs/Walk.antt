-- The new offset of a place is what document 01 says: the count of the bytes that the walk has written where it stands on the recorded offset with all
-- events of length 0 there passed.
use mathlib.Core.List.{List, [], ◌∷◌}
use Prim.Native.Nat.{ℕ, suc, ◌+◌, ◌≤◌, ◌<◌}
use native.Mathlib.Omega.{arith}
use lib.Dec.{ltb}
use lib.ListN.{take, length-append}
use borrow.Author.Tests.{ltb-true, ltb-false}
use Rattle.relax.specs.Events.{extent_of}
use Rattle.fresh.specs.Pooled.{Pooled}
use Rattle.fresh.specs.Forms.{form, width}
use Rattle.fresh.specs.Fresh.{Choice, is_long, others, Item, plain, event, writes, stands, walk}
use Rattle.fresh.specs.Order.{Lies, WellFormed}
use Rattle.fresh.proofs.Tests.{split}
use Rattle.fresh.proofs.Forms.{length_form}
use Rattle.fresh.proofs.Events.{at_start}
use Rattle.fresh.proofs.Entries.{clear_at}
use Rattle.fresh.specs.Walk.{spanned, Onward, Stand}
use Rattle.fresh.proofs.Items.{spanned_items, AtEvents, at_items}

-- t lies strictly inside no event
abbrev Outside : ℕ → ℕ → ℕ → Type 0
Outside t start end = start < t → end ≤ t

stand : (arch : ℕ) (is : List Item) (t o n : ℕ) (c : Choice) → AtEvents (Outside t) o is → o ≤ t → t ≤ o + spanned is → Stand arch t o n is c
unfolding AtEvents spanned stands writes Onward
stand arch [] t o n c p h k = record { passed = 0; here = omega arith; wrote = omega arith; onward = tt }
stand arch (plain b ∷ is) t o n c p h k = split (ltb t (suc o))
    (λ e. record { passed = 0; here = omega (arith, ltb-true t (suc o) e); wrote = rw (e, stands) (omega arith); onward = tt })
    (λ e. let q = stand arch is t (suc o) (suc n) c p (ltb-false t (suc o) e) (omega arith) in
    record { passed = suc q.passed; here = omega (arith, q.here); wrote = rw (e, stands) (omega (arith, q.wrote)); onward = q.onward })
stand arch (event e bytes ∷ is) t o n c p h k = split (ltb t (o + extent_of e))
    (λ w. record {
      passed = 0;
      here = omega (arith, at_start o (o + extent_of e) t h (ltb-true t (o + extent_of e) w) p.0);
      wrote = rw (w, stands) (omega arith);
      onward = omega (arith, ltb-true t (o + extent_of e) w);
    })
    (λ w. let q = stand arch is t (o + extent_of e) (n + width e (is_long c) n) (others c) p.1 (ltb-false t (o + extent_of e) w) (omega arith) in
    record {
      passed = suc q.passed;
      here = omega (arith, q.here);
      wrote = rw (w, stands) (omega (arith, q.wrote, length_form arch e bytes (is_long c) n, length-append (form arch e bytes (is_long c) n) (writes arch (n + width e (is_long c) n) (take q.passed is) (others c))));
      onward = q.onward;
    })

-- The walk does stand on every offset of the code that lies strictly inside no event, and `stands` says what it has written by then.
pub walk_stands : (p : Pooled) (c : Choice) → WellFormed p → (t : ℕ) → Lies p t → Stand p.arch t 0 0 (walk p) c
walk_stands p c wf t h =
    stand p.arch (walk p) t 0 0 c (at_items (Outside t) p.events 0 p.code wf.ordered (λ i k. clear_at p.events t i h.1 k)) (omega arith)
    (omega (arith, h.0, spanned_items p.events 0 p.code wf.ordered))
