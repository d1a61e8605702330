-- Fields and constants that lie apart from the events are moved apart from them: nothing that is written later covers a jump or padding.
use mathlib.Core.Path.{◌≡◌, refl, ap, ◌∙◌}
use mathlib.Core.Logic.{◌⊎◌, inl, inr, ◌≢◌, ⊎_elim}
use mathlib.Core.List.{List, [], ◌∷◌, map}
use Prim.Native.Nat.{ℕ, zero, suc, ◌+◌, ◌-◌, ◌≤◌, ◌<◌}
use native.Mathlib.Omega.{arith}
use lib.Dec.{ltb}
use lib.ListN.{length, get_or, take, drop}
use borrow.Author.Tests.{ne_eqb, ltb-true, ltb-false}
use Rattle.seqs.proofs.Numbers.{lt_or_ge}
use Rattle.relax.specs.declared.LayoutEvent.{LayoutEvent}
use Rattle.relax.specs.Events.{end_of, start_of, extent_of}
use Rattle.buffer.specs.State.{none}
use Rattle.fresh.specs.Pooled.{Pooled}
use Rattle.fresh.specs.Forms.{width}
use Rattle.fresh.specs.Fresh.{Choice, is_long, others, Item, plain, event, items, starts, stands, walk, moved}
use Rattle.fresh.specs.Order.{Apart, WellFormed}
use Rattle.fresh.proofs.Tests.{split}
use Rattle.fresh.proofs.Items.{AtEvents, at_items}
use Rattle.fresh.proofs.Segments.{starts_run}
use Rattle.demands.specs.Demand2.{new_start, new_end}
use Rattle.demands.proofs.Placing.{ends, stands_placed}

-- a field of k bytes at t shares no byte with what stands between start and end, and has no place inside it
abbrev Beside : ℕ → ℕ → ℕ → ℕ → Type 0
Beside t k start end = (t + k ≤ start) ⊎ (end ≤ t)

-- no event starts before where the walk stands, and no offset goes there
starts_from : (is : List Item) (n : ℕ) (c : Choice) (i : ℕ) → i < length (starts n is c) → n ≤ get_or (starts n is c) i 0
unfolding starts
starts_from [] n c i h = absurd (omega arith)
starts_from (plain b ∷ is) n c i h = omega (arith, starts_from is (suc n) c i h)
starts_from (event e bytes ∷ is) n c zero h = omega arith
starts_from (event e bytes ∷ is) n c (suc i) h = omega (arith, starts_from is (n + width e (is_long c) n) (others c) i (omega arith))

stands_from : (is : List Item) (t o n : ℕ) (c : Choice) → n ≤ stands t o n is c
unfolding stands
stands_from [] t o n c = omega arith
stands_from (plain b ∷ is) t o n c = split (ltb t (suc o))
    (λ e. rw (e, stands) (omega arith))
    (λ e. rw (e, stands) (omega (arith, stands_from is t (suc o) (suc n) c)))
stands_from (event e bytes ∷ is) t o n c = split (ltb t (o + extent_of e))
    (λ w. rw (w, stands) (omega arith))
    (λ w. rw (w, stands) (omega (arith, stands_from is t (o + extent_of e) (n + width e (is_long c) n) (others c))))

-- past a field's first byte, which went to a, every event starts after the field
after_field : (is : List Item) (t k a o n : ℕ) (c : Choice) (i : ℕ) → AtEvents (Beside t k) o is → t < o → (a + (o - t) ≤ n) ⊎ (a + k ≤ n)
    → i < length (starts n is c) → a + k ≤ get_or (starts n is c) i 0
unfolding starts AtEvents
after_field [] t k a o n c i p h inv l = absurd (omega arith)
after_field (plain b ∷ is) t k a o n c i p h inv l =
    after_field is t k a (suc o) (suc n) c i p (omega arith) (⊎_elim (λ x. inl (omega arith)) (λ x. inr (omega arith)) inv) l
after_field (event e bytes ∷ is) t k a o n c i p h inv l =
    let past : a + k ≤ n = ⊎_elim (λ x. ⊎_elim (λ y. omega arith) (λ y. absurd (omega arith)) p.0) (λ x. x) inv in
    omega (arith, starts_from (event e bytes ∷ is) n c i l)

-- A field beside every event is moved before or after each.
field_beside : (is : List Item) (t k o n : ℕ) (c : Choice) (i : ℕ) → AtEvents (Beside t k) o is → o ≤ t → i < length (starts n is c)
    → (stands t o n is c + k ≤ get_or (starts n is c) i 0) ⊎ (get_or (ends n is c) i 0 ≤ stands t o n is c)
unfolding starts ends stands AtEvents
field_beside [] t k o n c i p h l = absurd (omega arith)
field_beside (plain b ∷ is) t k o n c i p h l = split (ltb t (suc o))
    (λ e. rw (e, stands)
    (inl (after_field is t k n (suc o) (suc n) c i p (omega (arith, ltb-true t (suc o) e)) (inl (omega (arith, ltb-true t (suc o) e))) l)))
    (λ e. rw (e, stands) (field_beside is t k (suc o) (suc n) c i p (ltb-false t (suc o) e) l))
field_beside (event e bytes ∷ is) t k o n c zero p h l = split (ltb t (o + extent_of e))
    (λ w. rw (w, stands)
    (inl (⊎_elim (λ a. omega arith) (λ a. absurd (omega (arith, ltb-true t (o + extent_of e) w))) p.0)))
    (λ w. rw (w, stands) (inr (stands_from is t (o + extent_of e) (n + width e (is_long c) n) (others c))))
field_beside (event e bytes ∷ is) t k o n c (suc i) p h l = split (ltb t (o + extent_of e))
    (λ w. rw (w, stands)
    (inl
    (⊎_elim
    (λ a. omega (arith, starts_from is (n + width e (is_long c) n) (others c) i (omega arith)))
    (λ a. absurd (omega (arith, ltb-true t (o + extent_of e) w)))
    p.0)))
    (λ w. rw (w, stands)
    (field_beside is t k (o + extent_of e) (n + width e (is_long c) n) (others c) i p.1 (ltb-false t (o + extent_of e) w) (omega arith)))

-- an event ends before any after it starts
events_follow : (is : List Item) (n : ℕ) (c : Choice) (i j : ℕ) → i < j → j < length (starts n is c) → get_or (ends n is c) i 0 ≤ get_or (starts n is c) j 0
unfolding starts ends
events_follow [] n c i j h l = absurd (omega arith)
events_follow (plain b ∷ is) n c i j h l = events_follow is (suc n) c i j h l
events_follow (event e bytes ∷ is) n c i zero h l = absurd (omega arith)
events_follow (event e bytes ∷ is) n c zero (suc j) h l = starts_from is (n + width e (is_long c) n) (others c) j (omega arith)
events_follow (event e bytes ∷ is) n c (suc i) (suc j) h l = events_follow is (n + width e (is_long c) n) (others c) i j (omega arith) (omega arith)

no_starts : (bs : List ℕ) (n : ℕ) (c : Choice) → length (starts n (map plain bs) c) ≡ 0
unfolding starts
no_starts [] n c = refl
no_starts (b ∷ bs) n c = no_starts bs (suc n) c

length_starts : (es : List LayoutEvent) (o n : ℕ) (bytes : List ℕ) (c : Choice) → length (starts n (items o bytes es) c) ≡ length es
unfolding starts items
length_starts [] o n bytes c = no_starts bytes n c
length_starts (e ∷ es) o n bytes c =
    ap length (starts_run (take (start_of e - o) bytes) _ n c) ∙ ap suc (length_starts es (end_of e) _ (drop (end_of e - o) bytes) (others c))

module _ (p : Pooled) (c : Choice) where
  in_starts : (i : ℕ) → i < length p.events → i < length (starts 0 (walk p) c)
  in_starts i h = omega (arith, length_starts p.events 0 0 p.code c)

  end_is : (i : ℕ) → i < length p.events → get_or (ends 0 (walk p) c) i 0 ≡ new_end p c i
  end_is i h = (stands_placed p c i h).ends_at

  -- Where a field apart from the events goes, it is before or after each.
  pub moved_beside : WellFormed p → (offset k : ℕ) → offset < none → Apart p offset k → (i : ℕ) → i < length p.events
      → (moved p c offset + k ≤ new_start p c i) ⊎ (new_end p c i ≤ moved p c offset)
  unfolding moved
  moved_beside wf offset k small h i l =
      rw (← end_is i l, ne_eqb offset none (λ e. omega arith), moved)
      (field_beside (walk p) offset k 0 0 c i (at_items (Beside offset k) p.events 0 p.code wf.ordered h.1) (omega arith) (in_starts i l))

  -- No two events share a byte.
  pub events_apart : (i j : ℕ) → j ≢ i → i < length p.events → j < length p.events
      → (new_end p c i ≤ new_start p c j) ⊎ (new_end p c j ≤ new_start p c i)
  events_apart i j ne h l =
      ⊎_elim
      (λ (lt : i < j). inl (omega (arith, end_is i h, events_follow (walk p) 0 c i j lt (in_starts j l))))
      (λ (ge : j ≤ i). inr (omega (arith, end_is j l, events_follow (walk p) 0 c j i (omega (arith, other i j ne ge)) (in_starts i h))))
      (lt_or_ge i j)
    where
      other : (i j : ℕ) → j ≢ i → j ≤ i → j < i
      other i j ne ge = omega arith
