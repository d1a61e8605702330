-- What follows a field in the recording follows it in the code, however the code is laid out.
use mathlib.Core.Logic.{⊎_elim}
use mathlib.Core.List.{List, [], ◌∷◌}
use Prim.Native.Nat.{ℕ, suc, ◌+◌, ◌≤◌, ◌<◌}
use native.Mathlib.Omega.{arith}
use lib.Dec.{ltb}
use lib.ListN.{length}
use borrow.Author.Tests.{ltb-true, ltb-false, ne_eqb}
use Rattle.relax.specs.Events.{extent_of}
use Rattle.buffer.specs.State.{none}
use Rattle.fresh.specs.Pooled.{Pooled}
use Rattle.fresh.specs.Forms.{width}
use Rattle.fresh.specs.Fresh.{Choice, is_long, others, Item, plain, event, stands, walk, moved}
use Rattle.fresh.specs.Order.{Apart, WellFormed}
use Rattle.fresh.specs.Walk.{spanned}
use Rattle.fresh.proofs.Tests.{split}
use Rattle.fresh.proofs.Items.{spanned_items, AtEvents, at_items}
use Rattle.fresh.proofs.Within.{Beside}

stands_past : (is : List Item) (t o n : ℕ) (c : Choice) → n ≤ stands t o n is c
unfolding stands
stands_past [] t o n c = omega arith
stands_past (plain b ∷ is) t o n c = split (ltb t (suc o)) (λ e. rw (e, stands) (omega arith)) (λ e. rw (e, stands) (omega (arith, stands_past is t (suc o) (suc n) c)))
stands_past (event e bytes ∷ is) t o n c = split (ltb t (o + extent_of e))
    (λ w. rw (w, stands) (omega arith))
    (λ w. rw (w, stands) (omega (arith, stands_past is t (o + extent_of e) (n + width e (is_long c) n) (others c))))

-- From o on, inside the field of k bytes at t, the walk takes what is left of the field on its way to u, which lies behind it.
field_passed : (is : List Item) (t k u o n : ℕ) (c : Choice) → AtEvents (Beside t k) o is → t ≤ o → t + k ≤ u → u ≤ o + spanned is
    → n + (t + k) ≤ stands u o n is c + o
unfolding AtEvents spanned stands
field_passed [] t k u o n c p h f l = omega arith
field_passed (plain b ∷ is) t k u o n c p h f l = split (ltb u (suc o))
    (λ e. rw (e, stands) (omega (arith, ltb-true u (suc o) e)))
    (λ e. rw (e, stands) (omega (arith, field_passed is t k u (suc o) (suc n) c p (omega arith) f (omega arith))))
field_passed (event e bytes ∷ is) t k u o n c p h f l = ⊎_elim
    (λ before. omega (arith, stands_past (event e bytes ∷ is) u o n c))
    (λ after. split (ltb u (o + extent_of e))
    (λ w. absurd (omega (arith, ltb-true u (o + extent_of e) w)))
    (λ w. rw (w, stands)
    (omega (arith, field_passed is t k u (o + extent_of e) (n + width e (is_long c) n) (others c) p.1 (omega arith) f (omega arith)))))
    p.0

stands_apart : (is : List Item) (t k u o n : ℕ) (c : Choice) → AtEvents (Beside t k) o is → 0 < k → o ≤ t → t + k ≤ u → u ≤ o + spanned is
    → stands t o n is c + k ≤ stands u o n is c
unfolding AtEvents spanned stands
stands_apart [] t k u o n c p some h f l = absurd (omega arith)
stands_apart (plain b ∷ is) t k u o n c p some h f l = split (ltb t (suc o))
    (λ e. rw (e, stands)
    (omega (arith, ltb-true t (suc o) e, field_passed (plain b ∷ is) t k u o n c p (omega (arith, ltb-true t (suc o) e)) f l)))
    (λ e. split (ltb u (suc o))
    (λ w. absurd (omega (arith, ltb-true u (suc o) w, ltb-false t (suc o) e)))
    (λ w. rw (e, w, stands) (stands_apart is t k u (suc o) (suc n) c p some (ltb-false t (suc o) e) f (omega arith))))
stands_apart (event e bytes ∷ is) t k u o n c p some h f l = split (ltb t (o + extent_of e))
    (λ w. absurd (⊎_elim (λ before. omega arith) (λ after. omega (arith, ltb-true t (o + extent_of e) w)) p.0))
    (λ w. split (ltb u (o + extent_of e))
    (λ v. absurd (omega (arith, ltb-true u (o + extent_of e) v, ltb-false t (o + extent_of e) w)))
    (λ v. rw (w, v, stands)
    (stands_apart is t k u (o + extent_of e) (n + width e (is_long c) n) (others c) p.1 some (ltb-false t (o + extent_of e) w) f (omega arith))))

-- A field apart from the events, and an offset behind it.
pub moved_apart : (p : Pooled) (c : Choice) → WellFormed p → (t k u : ℕ) → Apart p t k → 0 < k → t + k ≤ u → u ≤ length p.code → u < none
    → moved p c t + k ≤ moved p c u
unfolding moved
moved_apart p c wf t k u apart some behind within small =
    rw (ne_eqb t none (λ e. omega arith), ne_eqb u none (λ e. omega arith), moved)
    (stands_apart (walk p) t k u 0 0 c (at_items (Beside t k) p.events 0 p.code wf.ordered apart.1) some (omega arith) behind
    (omega (arith, spanned_items p.events 0 p.code wf.ordered)))
