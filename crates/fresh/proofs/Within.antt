-- Where what is filled lies: within the finished code.
use mathlib.Core.Path.{◌≡◌}
use mathlib.Core.Logic.{◌⊎◌, ⊎_elim}
use mathlib.Core.Bool.{false}
use mathlib.Core.List.{List, [], ◌∷◌, ◌++◌}
use Prim.Native.Nat.{ℕ, zero, suc, ◌+◌, ◌-◌, ◌≤◌, ◌<◌}
use native.Mathlib.Omega.{arith}
use lib.Dec.{ltb}
use lib.ListN.{length, get_or, take, drop, length-append}
use borrow.Author.Tests.{ne_eqb, ltb-true, ltb-false}
use Rattle.fields.specs.Kinds.{patch_size}
use Rattle.relax.specs.declared.LayoutEvent.{LayoutEvent}
use Rattle.relax.specs.Events.{start_of, extent_of, end_of, no_event}
use Rattle.buffer.specs.State.{none}
use Rattle.fresh.specs.Pooled.{Pooled}
use Rattle.fresh.specs.Forms.{form, width, Branch, field_of, branches, role_of}
use Rattle.fresh.specs.Fresh.{Choice, is_long, others, Item, plain, event, items, writes, starts, stands, walk, placed, moved}
use Rattle.fresh.specs.Segments.{map_offset, segments_of}
use Rattle.fresh.specs.Order.{Lies, Apart, WellFormed}
use Rattle.fresh.specs.steps.Runs.{new_starts, runs}
use Rattle.fresh.proofs.Tests.{split}
use Rattle.fresh.proofs.Entries.{apart_lies}
use Rattle.fresh.specs.Walk.{spanned}
use Rattle.fresh.proofs.Items.{spanned_items, AtEvents, at_items}
use Rattle.fresh.proofs.Choices.{is_long_get_d, others_get_d}
use Rattle.fresh.proofs.Forms.{length_form, field_inside}
use Rattle.fresh.proofs.Segments.{writes_run, starts_run, placed_runs, starts_are, moved_map}

-- a field of n bytes at t shares no byte with what stands between start and end, and has no place inside it
abbrev pub Beside : ℕ → ℕ → ℕ → ℕ → Type 0
Beside t n start end = (t + n ≤ start) ⊎ (end ≤ t)

-- from o on, at or past t, the walk writes at least what is left of the field
field_left : (arch : ℕ) (is : List Item) (t k o n : ℕ) (c : Choice) → AtEvents (Beside t k) o is → t ≤ o → t + k ≤ o + spanned is
    → t + k ≤ o + length (writes arch n is c)
unfolding AtEvents spanned writes
field_left arch [] t k o n c p h f = f
field_left arch (plain b ∷ is) t k o n c p h f = omega (arith, field_left arch is t k (suc o) (suc n) c p (omega arith) (omega arith))
field_left arch (event e bytes ∷ is) t k o n c p h f = ⊎_elim
    (λ a. omega arith)
    (λ a. omega (
      arith,
      length_form arch e bytes (is_long c) n,
      length-append (form arch e bytes (is_long c) n) (writes arch (n + width e (is_long c) n) is (others c)),
      field_left arch is t k (o + extent_of e) (n + width e (is_long c) n) (others c) p.1 (omega arith) (omega arith),
    ))
    p.0

stands_field : (arch : ℕ) (is : List Item) (t k o n : ℕ) (c : Choice) → AtEvents (Beside t k) o is → o ≤ t → t + k ≤ o + spanned is
    → stands t o n is c + k ≤ n + length (writes arch n is c)
unfolding AtEvents spanned stands writes
stands_field arch [] t k o n c p h f = omega arith
stands_field arch (plain b ∷ is) t k o n c p h f = split (ltb t (suc o))
    (λ e. rw (e, stands)
    (omega (arith, ltb-true t (suc o) e, field_left arch (plain b ∷ is) t k o n c p (omega (arith, ltb-true t (suc o) e)) f)))
    (λ e. rw (e, stands) (omega (arith, stands_field arch is t k (suc o) (suc n) c p (ltb-false t (suc o) e) (omega arith))))
stands_field arch (event e bytes ∷ is) t k o n c p h f = split (ltb t (o + extent_of e))
    (λ w. rw (w, stands) (⊎_elim (λ a. omega arith) (λ a. absurd (omega (arith, ltb-true t (o + extent_of e) w))) p.0))
    (λ w. rw (w, stands)
    (omega (
      arith,
      length_form arch e bytes (is_long c) n,
      length-append (form arch e bytes (is_long c) n) (writes arch (n + width e (is_long c) n) is (others c)),
      stands_field arch is t k (o + extent_of e) (n + width e (is_long c) n) (others c) p.1 (ltb-false t (o + extent_of e) w) (omega arith),
    )))

stands_within : (arch : ℕ) (is : List Item) (t o n : ℕ) (c : Choice) → stands t o n is c ≤ n + length (writes arch n is c)
unfolding stands writes
stands_within arch [] t o n c = omega arith
stands_within arch (plain b ∷ is) t o n c = split (ltb t (suc o))
    (λ e. rw (e, stands) (omega arith))
    (λ e. rw (e, stands) (omega (arith, stands_within arch is t (suc o) (suc n) c)))
stands_within arch (event e bytes ∷ is) t o n c = split (ltb t (o + extent_of e))
    (λ w. rw (w, stands) (omega arith))
    (λ w. rw (w, stands)
    (omega (
      arith,
      length_form arch e bytes (is_long c) n,
      length-append (form arch e bytes (is_long c) n) (writes arch (n + width e (is_long c) n) is (others c)),
      stands_within arch is t (o + extent_of e) (n + width e (is_long c) n) (others c),
    )))

-- from its new start on, an event takes its width of the code
event_within : (arch : ℕ) (es : List LayoutEvent) (o n : ℕ) (bytes : List ℕ) (c : Choice) (i : ℕ) → i < length es
    → get_or (starts n (items o bytes es) c) i 0 + width (get_or es i no_event) (get_or c i false) (get_or (starts n (items o bytes es) c) i 0)
    ≤ n + length (writes arch n (items o bytes es) c)
unfolding items starts writes
event_within arch [] o n bytes c i h = absurd (omega arith)
event_within arch (e ∷ es) o n bytes c zero h =
    rw (starts_run run (event e kept ∷ rest) n c, writes_run arch run (event e kept ∷ rest) n c, ← is_long_get_d c)
    (omega (
      arith,
      length-append run (form arch e kept (is_long c) m ++ writes arch (m + width e (is_long c) m) rest (others c)),
      length-append (form arch e kept (is_long c) m) (writes arch (m + width e (is_long c) m) rest (others c)),
      length_form arch e kept (is_long c) m,
    ))
  where
    run : List ℕ
    run = take (start_of e - o) bytes

    kept : List ℕ
    kept = take (extent_of e) (drop (start_of e - o) bytes)

    rest : List Item
    rest = items (end_of e) (drop (end_of e - o) bytes) es

    m : ℕ
    m = n + length run
event_within arch (e ∷ es) o n bytes c (suc i) h =
    rw (starts_run run (event e kept ∷ rest) n c, writes_run arch run (event e kept ∷ rest) n c, ← others_get_d c i)
    (omega (
      arith,
      length-append run (form arch e kept (is_long c) m ++ writes arch (m + width e (is_long c) m) rest (others c)),
      length-append (form arch e kept (is_long c) m) (writes arch (m + width e (is_long c) m) rest (others c)),
      length_form arch e kept (is_long c) m,
      event_within arch es (end_of e) (m + width e (is_long c) m) (drop (end_of e - o) bytes) (others c) i (omega arith),
    ))
  where
    run : List ℕ
    run = take (start_of e - o) bytes

    kept : List ℕ
    kept = take (extent_of e) (drop (start_of e - o) bytes)

    rest : List Item
    rest = items (end_of e) (drop (end_of e - o) bytes) es

    m : ℕ
    m = n + length run

-- Every offset is within the code where the walk moves it.
pub moved_le : (p : Pooled) (c : Choice) (t : ℕ) → t < none → moved p c t ≤ length (placed p c)
unfolding moved
moved_le p c t small = rw (ne_eqb t none (λ e. omega arith), moved) (omega (arith, stands_within p.arch (walk p) t 0 0 c))

-- Every event ends within the code.
pub end_within : (p : Pooled) (c : Choice) (i : ℕ) → i < length p.events
    → get_or (starts 0 (walk p) c) i 0 + width (get_or p.events i no_event) (get_or c i false) (get_or (starts 0 (walk p) c) i 0) ≤ length (placed p c)
end_within p c i h = omega (arith, event_within p.arch p.events 0 0 p.code c i h)

module _ (p : Pooled) (c : Choice) (wf : WellFormed p) where
  -- A field apart from the events is within the code where the walk moves it.
  pub moved_within : (offset n : ℕ) → offset < none → Apart p offset n → moved p c offset + n ≤ length (placed p c)
  unfolding moved
  moved_within offset n small h =
      rw (ne_eqb offset none (λ e. omega arith), moved)
      (omega (
        arith,
        stands_field p.arch (walk p) offset n 0 0 c (at_items (Beside offset n) p.events 0 p.code wf.ordered h.1) (omega arith)
            (omega (arith, h.0, spanned_items p.events 0 p.code wf.ordered)),
      ))

  -- The same where the segments put it.
  pub mapped_within : (offset n : ℕ) → offset < none → Apart p offset n
      → map_offset (segments_of p c) offset + n ≤ length (runs p.arch 0 0 p.code p.events c)
  mapped_within offset n small h =
      rw (← moved_map p c wf offset (apart_lies p offset n h), ← placed_runs p c wf) (moved_within offset n small h)

  pub mapped_le : (t : ℕ) → t < none → Lies p t → map_offset (segments_of p c) t ≤ length (runs p.arch 0 0 p.code p.events c)
  mapped_le t small h = rw (← moved_map p c wf t h, ← placed_runs p c wf) (moved_le p c t small)

  -- The field of each jump likewise.
  pub field_within : (i : ℕ) (b : Branch) → i < length p.events → role_of (get_or p.events i no_event) ≡ branches b
      → get_or (new_starts (segments_of p c)) i 0 + (field_of b (get_or c i false)).place + patch_size (field_of b (get_or c i false)).kind
      ≤ length (runs p.arch 0 0 p.code p.events c)
  field_within i b h r =
      rw (← starts_are p c wf, ← placed_runs p c wf)
      (omega (arith, end_within p c i h, field_inside (get_or p.events i no_event) b r (get_or c i false) (get_or (starts 0 (walk p) c) i 0)))
