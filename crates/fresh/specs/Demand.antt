-- Demand 3, as one claim about what a finish hands out.
use Rattle.std.specs.Prelude.{◌≡◌, true, false, List, [], ◌∷◌, map, ℕ, ◌+◌, ◌≤◌, ◌<◌, length, get_or}
use Rattle.fields.specs.Kinds.{info}
use Rattle.relax.specs.declared.LayoutEvent.{LayoutEvent}
use Rattle.relax.specs.Events.{no_event}
use Rattle.fresh.specs.Pooled.{Pooled}
use Rattle.fresh.specs.Forms.{Branch, Role, pads, branches, role_of}
use Rattle.fresh.specs.Fresh.{Choice, walk, starts, moved, target}
use Rattle.fresh.specs.Rounds.{all_short, jumps, Rounds}
use Rattle.fresh.specs.Fill.{assembled}

-- a label lies where a short jump that starts at `start` reaches it (`reaches`)
pub record Reach (b : Branch) (start label : ℕ) : Type 0 where
  pub back : start + b.short.place + (info b.short.kind).from ≤ label + (info b.short.kind).low
  pub ahead : label ≤ start + b.short.place + (info b.short.kind).from + (info b.short.kind).high

-- every short jump reaches, where the choice places it
unfoldable pub Fits : Pooled → Choice → Type 0
Fits p c = (i : ℕ) (b : Branch) → i < length p.events → role_of (get_or p.events i no_event) ≡ branches b → get_or c i false ≡ false
    → Reach b (get_or (starts 0 (walk p) c) i 0) (target p c b.label)

-- what is long in c is long in d
unfoldable pub Includes : Choice → Choice → Type 0
Includes c d = (i : ℕ) → get_or c i false ≡ true → get_or d i false ≡ true

-- an event names a label
abbrev pub Branches : Role → Type 0
Branches pads = ⊥
Branches (branches b) = Unit {0}

-- "neither alignment nor pooled constant": every event names a label. A pooled constant has an alignment among the events.
unfoldable pub NoAlign : List LayoutEvent → Type 0
NoAlign [] = Unit {0}
NoAlign (e ∷ es) = Branches (role_of e) × NoAlign es

-- A finish of p hands out `code`, the labels' offsets, and says how long the code is and how many layouts it made.
pub record Demand3 (p : Pooled) (code labels : List ℕ) (len layouts : ℕ) : Type 0 where
  -- the jumps that are long: those on which the rounds settle; the layouts reported equal the number of rounds
  pub choice : Choice
  pub rounds : Rounds p (all_short p.events) choice layouts
  -- finished length and every byte, and every label's offset, equal those of a fresh assembly told from the start which jumps are long
  pub finished : len ≡ length (assembled p choice)
  pub bytes : code ≡ assembled p choice
  pub offsets : labels ≡ map (moved p choice) p.labels
  pub few : layouts ≤ jumps p.events + 1
  pub reach : Fits p choice
  -- every choice that leaves all its short jumps in range includes each of our long ones
  pub least : NoAlign p.events → (d : Choice) → Fits p d → Includes choice d
