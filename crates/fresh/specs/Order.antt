-- Recordings in good order: events that follow one another, and offsets that lie strictly inside none of them. With a jump finish refuses any other.
use Rattle.std.specs.Prelude.{◌⊎◌, ◌≢◌, List, [], ◌∷◌, ℕ, ◌+◌, ◌≤◌, ◌<◌, length, get_or}
use Rattle.relax.specs.declared.LayoutEvent.{LayoutEvent}
use Rattle.relax.specs.Events.{start_of, end_of, no_event}
use Rattle.buffer.specs.State.{none}
use Rattle.recording.specs.View.{Ref}
use Rattle.fresh.specs.Pooled.{Placed, Pooled}

-- the events follow one another from o on, and end within n bytes
unfoldable pub Ordered : ℕ → ℕ → List LayoutEvent → Type 0
Ordered o n [] = o ≤ n
Ordered o n (e ∷ es) = (o ≤ start_of e) × Ordered (end_of e) n es

-- the offset t lies strictly inside none of the events
unfoldable pub Clear : ℕ → List LayoutEvent → Type 0
Clear t [] = Unit {0}
Clear t (e ∷ es) = (start_of e < t → end_of e ≤ t) × Clear t es

-- an offset in the code, and strictly inside no event
abbrev pub Lies : Pooled → ℕ → Type 0
Lies p t = (t ≤ length p.code) × Clear t p.events

-- a field in the code that shares no byte with an event, and has none inside it
abbrev pub Apart : Pooled → ℕ → ℕ → Type 0
Apart p offset n =
    (offset + n ≤ length p.code)
    × ((i : ℕ) → i < length p.events
    → (offset + n ≤ start_of (get_or p.events i no_event)) ⊎ (end_of (get_or p.events i no_event) ≤ offset))

-- each ref's field starts at an offset of the code strictly inside no event
unfoldable pub RefsLie : Pooled → List Ref → Type 0
RefsLie p [] = Unit {0}
RefsLie p (r ∷ rs) = Lies p r.offset × RefsLie p rs

-- each constant of the pool stands at one
unfoldable pub PoolLies : Pooled → List Placed → Type 0
PoolLies p [] = Unit {0}
PoolLies p (k ∷ ks) = Lies p k.offset × PoolLies p ks

-- what holds of a recording with a jump that finish does not refuse
pub record WellFormed (p : Pooled) : Type 0 where
  pub ordered : Ordered 0 (length p.code) p.events
  pub landed : (l : ℕ) → get_or p.labels l none ≢ none → Lies p (get_or p.labels l none)
  pub fields : RefsLie p p.refs
  pub constants : PoolLies p p.pool
