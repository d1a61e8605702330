-- Offsets rise with the choice of long jumps, alignments and skipped ones among them: no round puts anything before where the round before it did, and none
-- makes the code shorter.
use mathlib.Core.Path.{◌≡◌, refl, sym, ◌∙◌}
use mathlib.Core.Logic.{⊎_elim}
use mathlib.Core.Bool.{Bool, true, false}
use mathlib.Core.List.{List, [], ◌∷◌}
use Prim.Native.Nat.{ℕ, suc, ◌+◌, ◌≤◌, ◌<◌}
use native.Mathlib.Omega.{arith}
use lib.Dec.{ltb, eqb}
use lib.ListN.{length, length-append, get_or-eq_default}
use Rattle.seqs.proofs.Numbers.{lt_or_ge}
use Rattle.encoder.proofs.Padding.{within_rises}
use Rattle.relax.specs.declared.LayoutEvent.{LayoutEvent}
use Rattle.relax.specs.declared.LayoutEvent.TheVariants.{Jump, Align, Far}
use Rattle.relax.specs.Events.{extent_of}
use Rattle.buffer.specs.State.{none}
use Rattle.fresh.specs.Pooled.{Pooled}
use Rattle.fresh.specs.Forms.{form, width, branch_of, far_branch_of, role_of}
use Rattle.fresh.specs.Fresh.{Choice, is_long, others, Item, plain, event, writes, starts, stands, walk, placed, moved, target}
use Rattle.fresh.specs.Rounds.{far, longer}
use Rattle.fresh.specs.Demand.{Includes}
use Rattle.fresh.proofs.Tests.{split, no_confusion}
use Rattle.fresh.proofs.Forms.{length_form, branch_wider}
use Rattle.fresh.proofs.Choices.{is_long_in, others_in, join_get_d, length_far_of}

-- where an event ends, if it starts no earlier and is long where it was
event_rises : (e : LayoutEvent) (long longer : Bool) → (long ≡ true → longer ≡ true) → (n m : ℕ) → n ≤ m → n + width e long n ≤ m + width e longer m
unfolding width role_of
event_rises (Jump j) long longer h n m le = omega (arith, branch_wider (Jump j) (branch_of j) refl long longer n m h)
event_rises (Align a) long longer h n m le = within_rises n m a.align a.most le
event_rises (Far f) long longer h n m le = omega (arith, branch_wider (Far f) (far_branch_of f) refl long longer n m h)

stands_rise : (is : List Item) (c d : Choice) → Includes c d → (t o n m : ℕ) → n ≤ m → stands t o n is c ≤ stands t o m is d
unfolding stands
stands_rise [] c d h t o n m le = le
stands_rise (plain b ∷ is) c d h t o n m le = split (ltb t (suc o))
    (λ e. rw (e, stands) le)
    (λ e. rw (e, stands) (stands_rise is c d h t (suc o) (suc n) (suc m) (omega arith)))
stands_rise (event e bytes ∷ is) c d h t o n m le = split (ltb t (o + extent_of e))
    (λ w. rw (w, stands) le)
    (λ w. rw (w, stands)
    (stands_rise is (others c) (others d) (others_in c d h) t (o + extent_of e) (n + width e (is_long c) n) (m + width e (is_long d) m)
    (event_rises e (is_long c) (is_long d) (is_long_in c d h) n m le)))

writes_rise : (arch : ℕ) (is : List Item) (c d : Choice) → Includes c d → (n m : ℕ) → n ≤ m → n + length (writes arch n is c) ≤ m + length (writes arch m is d)
unfolding writes
writes_rise arch [] c d h n m le = omega arith
writes_rise arch (plain b ∷ is) c d h n m le = omega (arith, writes_rise arch is c d h (suc n) (suc m) (omega arith))
writes_rise arch (event e bytes ∷ is) c d h n m le =
    let w = width e (is_long c) n in
    let v = width e (is_long d) m in
    omega (
      arith,
      length-append (form arch e bytes (is_long c) n) (writes arch (n + w) is (others c)),
      length-append (form arch e bytes (is_long d) m) (writes arch (m + v) is (others d)),
      length_form arch e bytes (is_long c) n,
      length_form arch e bytes (is_long d) m,
      writes_rise arch is (others c) (others d) (others_in c d h) (n + w) (m + v) (event_rises e (is_long c) (is_long d) (is_long_in c d h) n m le),
    )

-- A larger choice puts nothing before where a smaller one does,
pub moved_rises : (p : Pooled) (c d : Choice) → Includes c d → (t : ℕ) → moved p c t ≤ moved p d t
unfolding moved
moved_rises p c d h t = split (eqb t none)
    (λ e. rw (e, moved) (omega arith))
    (λ e. rw (e, moved) (stands_rise (walk p) c d h t 0 0 0 (omega arith)))

-- and makes the code no shorter.
pub placed_rises : (p : Pooled) (c d : Choice) → Includes c d → length (placed p c) ≤ length (placed p d)
placed_rises p c d h = omega (arith, writes_rise p.arch (walk p) c d h 0 0 (omega arith))

-- A round's choice includes the one before.
pub longer_includes : (p : Pooled) (c : Choice) → length c ≡ length p.events → Includes c (longer p c)
unfolding Includes
longer_includes p c size i long =
    ⊎_elim
    (λ (known : i < length p.events). join_get_d c (far p c) i (omega (arith, length_far_of (target p c) p.events c (starts 0 (walk p) c))) ∙ rw long refl)
    (λ (past : length p.events ≤ i). no_confusion (sym (get_or-eq_default c false (omega arith)) ∙ long))
    (lt_or_ge i (length p.events))
