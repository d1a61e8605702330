-- Events in order, and the runs of code between them.
use mathlib.Core.Path.{◌≡◌, ◌∙◌, ap}
use mathlib.Core.List.{List, [], ◌∷◌}
use Prim.Native.Nat.{ℕ, zero, suc, ◌+◌, ◌-◌, ◌≤◌, ◌<◌}
use native.Mathlib.Omega.{arith}
use lib.Dec.{ltb}
use lib.ListN.{length, get_or, take, drop, length-drop}
use lib.Seq.{length-take-le, drop-drop}
use borrow.Author.Tests.{ltb-true, ltb-false}
use Rattle.relax.specs.declared.LayoutEvent.{LayoutEvent}
use Rattle.relax.specs.Events.{start_of, end_of, no_event}
use Rattle.fresh.specs.Order.{Ordered, Clear}
use Rattle.fresh.proofs.Tests.{split}

-- an offset that is at or past a start, before the end, and not strictly inside is the start
pub at_start : (s f t : ℕ) → s ≤ t → t < f → (s < t → f ≤ t) → t ≡ s
at_start s f t a b h = split (ltb s t)
    (λ q. absurd (omega (arith, h (ltb-true s t q))))
    (λ q. omega (arith, ltb-false s t q))

pub ordered_le : (o n : ℕ) (es : List LayoutEvent) → Ordered o n es → o ≤ n
unfolding Ordered
ordered_le o n [] h = h
ordered_le o n (e ∷ es) h = omega (arith, h.0, ordered_le (end_of e) n es h.1)

-- all events end within the code, so its end lies inside none
pub ordered_clear : (es : List LayoutEvent) (o n : ℕ) → Ordered o n es → Clear n es
unfolding Ordered Clear
ordered_clear [] o n h = tt
ordered_clear (e ∷ es) o n h = (λ w. ordered_le (end_of e) n es h.1, ordered_clear es (end_of e) n h.1)

-- the run before an event has the length that its start says
pub run_length : (o s : ℕ) (code : List ℕ) → o ≤ s → s ≤ length code → length (take (s - o) (drop o code)) ≡ s - o
run_length o s code h k = length-take-le (s - o) (drop o code) (rw (length-drop o code) (omega arith))

pub drop_on : (o s : ℕ) (code : List ℕ) → o ≤ s → drop (s - o) (drop o code) ≡ drop s code
drop_on o s code h = let p : o + (s - o) ≡ s = omega arith in drop-drop (s - o) o code ∙ ap (λ x. drop x code) p

start_past : (es : List LayoutEvent) (o n j : ℕ) → Ordered o n es → j < length es → o ≤ start_of (get_or es j no_event)
unfolding Ordered
start_past [] o n j h k = absurd (omega arith)
start_past (e ∷ es) o n zero h k = h.0
start_past (e ∷ es) o n (suc j) h k = omega (arith, h.0, start_past es (end_of e) n j h.1 (omega arith))

-- The events' starts rise, so a binary search finds the last segment that starts at or before an offset.
pub starts_rise : (es : List LayoutEvent) (o n i j : ℕ) → Ordered o n es → i ≤ j → j < length es
    → start_of (get_or es i no_event) ≤ start_of (get_or es j no_event)
unfolding Ordered
starts_rise [] o n i j h le k = absurd (omega arith)
starts_rise (e ∷ es) o n zero zero h le k = omega arith
starts_rise (e ∷ es) o n zero (suc j) h le k = omega (arith, start_past es (end_of e) n j h.1 (omega arith))
starts_rise (e ∷ es) o n (suc i) zero h le k = absurd (omega arith)
starts_rise (e ∷ es) o n (suc i) (suc j) h le k = starts_rise es (end_of e) n i j h.1 (omega arith) (omega arith)
