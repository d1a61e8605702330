-- The rounds by which jumps become long: document 01, "Rounds start with no jump long".
use Rattle.std.specs.Prelude.{◌≡◌, Bool, true, false, not, ◌&&◌, ◌||◌, List, [], ◌∷◌, ℕ, zero, suc, ◌+◌, leb}
use Rattle.fields.specs.Kinds.{info}
use Rattle.relax.specs.declared.LayoutEvent.{LayoutEvent}
use Rattle.fresh.specs.Pooled.{Pooled}
use Rattle.fresh.specs.Forms.{Branch, Role, pads, branches, role_of}
use Rattle.fresh.specs.Fresh.{Choice, is_long, others, walk, starts, target}

-- no jump is long
abbrev pub all_short : List LayoutEvent → Choice
all_short [] = []
all_short (e ∷ es) = false ∷ all_short es

-- how many jumps there are: events that name a label
abbrev pub counted : Role → ℕ
counted pads = 0
counted (branches b) = 1

unfoldable pub jumps : List LayoutEvent → ℕ
jumps [] = 0
jumps (e ∷ es) = counted (role_of e) + jumps es

-- A short jump that starts at `start` reaches a label where its field does: of a jump, the label's offset minus the jump's end lies in -128..127.
unfoldable pub reaches : Branch → ℕ → ℕ → Bool
reaches b start label =
    let field = info b.short.kind in
    let from = start + b.short.place + field.from in
    leb from (label + field.low) && leb label (from + field.high)

-- an event, long or not, that starts at `start` is a short jump that does not reach its label, whose offset `at` knows by its number
unfoldable pub is_far : (ℕ → ℕ) → LayoutEvent → Bool → ℕ → Bool
is_far at e long start = elim (role_of e) [ pads ↦ false | branches b ↦ not long && not (reaches b start (at b.label)) ]

-- the first of the starts, and those after it
abbrev pub first_start : List ℕ → ℕ
first_start [] = 0
first_start (x ∷ xs) = x

abbrev pub other_starts : List ℕ → List ℕ
other_starts [] = []
other_starts (x ∷ xs) = xs

unfoldable pub far_of : (ℕ → ℕ) → List LayoutEvent → Choice → List ℕ → Choice
far_of at [] c starts = []
far_of at (e ∷ es) c starts = is_far at e (is_long c) (first_start starts) ∷ far_of at es (others c) (other_starts starts)

-- which events a round lengthens: the short jumps that do not reach where the choice places them
abbrev pub far : Pooled → Choice → Choice
far p c = far_of (target p c) p.events c (starts 0 (walk p) c)

unfoldable pub any : Choice → Bool
any [] = false
any (b ∷ bs) = b || any bs

-- what is long in the first or in the second
unfoldable pub join : Choice → Choice → Choice
join c [] = []
join c (f ∷ fs) = (is_long c || f) ∷ join (others c) fs

-- the choice that a round makes; "none returns to short"
abbrev pub longer : Pooled → Choice → Choice
longer p c = join c (far p c)

-- The rounds from a choice settle on a second one, and are n: "The first that lengthens none is the last: its choice is settled, and the layouts
-- reported are the rounds, this one included."
pub data Rounds (p : Pooled) : Choice → Choice → ℕ → Type 0 where
  last : {c : Choice} → any (far p c) ≡ false → Rounds p c c 1
  again : {c s : Choice} {n : ℕ} → any (far p c) ≡ true → Rounds p (longer p c) s n → Rounds p c s (suc n)

-- The same, computed: at most k rounds lengthen a jump.
pub record Settled : Type 0 where
  pub choice : Choice
  pub rounds : ℕ

unfoldable pub settle : ℕ → Pooled → Choice → Settled
settle zero p c = record { choice = c; rounds = 1 }
settle (suc k) p c = elim (any (far p c)) [
  | false ↦ record { choice = c; rounds = 1 }
  | true ↦ record { choice = (settle k p (longer p c)).choice; rounds = suc (settle k p (longer p c)).rounds }
]

-- No more rounds lengthen a jump than there are jumps (`rounds_settle`).
abbrev pub settled : Pooled → Settled
settled p = settle (jumps p.events) p (all_short p.events)
