-- What the walk meets: how much of the recording the items stand for, and at which recorded offsets its events stand.
use mathlib.Core.Path.{◌≡◌, refl, ap}
use mathlib.Core.List.{List, [], ◌∷◌, ◌++◌, map}
use Prim.Native.Nat.{ℕ, suc, ◌+◌, ◌-◌, ◌<◌}
use native.Mathlib.Omega.{arith}
use lib.ListN.{length, get_or, take, drop, length-drop}
use Rattle.relax.specs.declared.LayoutEvent.{LayoutEvent}
use Rattle.relax.specs.Events.{end_of, start_of, extent_of, no_event}
use Rattle.fresh.specs.Fresh.{Item, plain, event, items}
use Rattle.fresh.specs.Order.{Ordered}
use Rattle.fresh.specs.Walk.{spanned}
use Rattle.fresh.proofs.Events.{ordered_le, run_length, drop_on}

spanned_plains : (bs : List ℕ) → spanned (map plain bs) ≡ length bs
unfolding spanned
spanned_plains [] = refl
spanned_plains (b ∷ bs) = ap suc (spanned_plains bs)

spanned_run : (bs : List ℕ) (is : List Item) → spanned (map plain bs ++ is) ≡ length bs + spanned is
unfolding spanned
spanned_run [] is = omega arith
spanned_run (b ∷ bs) is = omega (arith, spanned_run bs is)

pub spanned_items : (es : List LayoutEvent) (o : ℕ) (code : List ℕ) → Ordered o (length code) es → o + spanned (items o (drop o code) es) ≡ length code
unfolding spanned items Ordered
spanned_items [] o code h = omega (arith, spanned_plains (drop o code), length-drop o code)
spanned_items (e ∷ es) o code h =
    rw (drop_on o (end_of e) code (omega (arith, h.0)))
    (omega (
      arith,
      h.0,
      spanned_run (take (start_of e - o) (drop o code)) (event e (take (extent_of e) (drop (start_of e - o) (drop o code))) ∷ items (end_of e) (drop (end_of e) code) es),
      run_length o (start_of e) code h.0 (omega (arith, ordered_le (end_of e) (length code) es h.1)),
      spanned_items es (end_of e) code h.1,
    ))

-- P holds of the recorded start and end of each event, the items being met from the recorded offset o on
unfoldable pub AtEvents : (ℕ → ℕ → Type 0) → ℕ → List Item → Type 0
AtEvents P o [] = Unit {0}
AtEvents P o (plain b ∷ is) = AtEvents P (suc o) is
AtEvents P o (event e bytes ∷ is) = P o (o + extent_of e) × AtEvents P (o + extent_of e) is

module _ (P : ℕ → ℕ → Type 0) where
  at_run : (bs : List ℕ) (is : List Item) (o : ℕ) → AtEvents P (o + length bs) is → AtEvents P o (map plain bs ++ is)
  unfolding AtEvents
  at_run [] is o p = let e : o + 0 ≡ o = omega arith in rw e at p
  at_run (b ∷ bs) is o p = at_run bs is (suc o) (let e : o + suc (length bs) ≡ suc o + length bs = omega arith in rw e at p)

  at_plains : (bs : List ℕ) (o : ℕ) → AtEvents P o (map plain bs)
  unfolding AtEvents
  at_plains [] o = tt
  at_plains (b ∷ bs) o = at_plains bs (suc o)

  -- The walk meets the events where they were recorded.
  pub at_items : (es : List LayoutEvent) (o : ℕ) (code : List ℕ) → Ordered o (length code) es
      → ((i : ℕ) → i < length es → P (start_of (get_or es i no_event)) (end_of (get_or es i no_event))) → AtEvents P o (items o (drop o code) es)
  unfolding Ordered items AtEvents
  at_items [] o code h k = at_plains (drop o code) o
  at_items (e ∷ es) o code h k =
      let there : o + (start_of e - o) ≡ start_of e = omega (arith, h.0) in
      at_run (take (start_of e - o) (drop o code)) _ o
      (rw (
        run_length o (start_of e) code h.0 (omega (arith, ordered_le (end_of e) (length code) es h.1)),
        there,
        drop_on o (end_of e) code (omega (arith, h.0)),
      )
      (k 0 (omega arith), at_items es (end_of e) code h.1 (λ i l. k (suc i) (omega arith))))
