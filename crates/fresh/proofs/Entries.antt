-- A recording in good order, entry by entry.
use mathlib.Core.Logic.{◌⊎◌, inl, inr, ⊎_elim}
use mathlib.Core.List.{List, [], ◌∷◌}
use Prim.Native.Nat.{ℕ, zero, suc, ◌≤◌, ◌<◌}
use native.Mathlib.Omega.{arith}
use lib.ListN.{length, get_or}
use Rattle.relax.specs.declared.LayoutEvent.{LayoutEvent}
use Rattle.relax.specs.Events.{end_of, start_of, no_event}
use Rattle.recording.specs.View.{Ref}
use Rattle.fresh.specs.Pooled.{Placed, Pooled}
use Rattle.fresh.specs.Order.{Ordered, Clear, Lies, Apart, RefsLie, PoolLies}
use Rattle.fresh.specs.steps.Runs.{Small, Modest}

-- Event by event: an offset lies inside none.
pub clear_at : (es : List LayoutEvent) (t i : ℕ) → Clear t es → i < length es → start_of (get_or es i no_event) < t → end_of (get_or es i no_event) ≤ t
unfolding Clear
clear_at [] t i h k = absurd (omega arith)
clear_at (e ∷ es) t zero h k = h.0
clear_at (e ∷ es) t (suc i) h k = clear_at es t i h.1 (omega arith)

pub clear_of : (es : List LayoutEvent) (t : ℕ)
    → ((i : ℕ) → i < length es → (t ≤ start_of (get_or es i no_event)) ⊎ (end_of (get_or es i no_event) ≤ t)) → Clear t es
unfolding Clear
clear_of [] t h = tt
clear_of (e ∷ es) t h =
    (λ w. ⊎_elim (λ a. absurd (omega arith)) (λ b. b) (h 0 (omega arith)), clear_of es t (λ i k. h (suc i) (omega arith)))

-- Event by event: each starts at or past the end of those before it.
pub ordered_of : (es : List LayoutEvent) (o n : ℕ) → o ≤ n
    → ((i : ℕ) → i < length es → (o ≤ start_of (get_or es i no_event)) × (end_of (get_or es i no_event) ≤ n))
    → ((i j : ℕ) → i < j → j < length es → end_of (get_or es i no_event) ≤ start_of (get_or es j no_event))
    → Ordered o n es
unfolding Ordered
ordered_of [] o n h k f = h
ordered_of (e ∷ es) o n h k f = (
  (k 0 (omega arith)).0,
  ordered_of es (end_of e) n (k 0 (omega arith)).1
      (λ i l. (f 0 (suc i) (omega arith) (omega arith), (k (suc i) (omega arith)).1))
      (λ i j l m. f (suc i) (suc j) (omega arith) (omega arith)),
)

-- a field apart from the events starts inside none
pub apart_lies : (p : Pooled) (offset n : ℕ) → Apart p offset n → Lies p offset
apart_lies p offset n h =
    (omega (arith, h.0), clear_of p.events offset (λ i k. ⊎_elim (λ a. inl (omega arith)) (λ b. inr b) (h.1 i k)))

pub refs_lie : (p : Pooled) (rs : List Ref) (z : Ref) → ((i : ℕ) → i < length rs → Lies p (get_or rs i z).offset) → RefsLie p rs
unfolding RefsLie
refs_lie p [] z h = tt
refs_lie p (r ∷ rs) z h = (h 0 (omega arith), refs_lie p rs z (λ i k. h (suc i) (omega arith)))

pub pool_lies : (p : Pooled) (ks : List Placed) (z : Placed) → ((i : ℕ) → i < length ks → Lies p (get_or ks i z).offset) → PoolLies p ks
unfolding PoolLies
pool_lies p [] z h = tt
pool_lies p (k ∷ ks) z h = (h 0 (omega arith), pool_lies p ks z (λ i m. h (suc i) (omega arith)))

pub modest_of : (es : List LayoutEvent) → ((i : ℕ) → i < length es → Small (get_or es i no_event)) → Modest es
unfolding Modest
modest_of [] h = tt
modest_of (e ∷ es) h = (h 0 (omega arith), modest_of es (λ i k. h (suc i) (omega arith)))
