-- A fresh assembly of a pooled recording, told from the start which jumps are long: document 01, "A fresh assembly is defined without segments or
-- `map`", up to "Once all is placed".
use Rattle.std.specs.Prelude.{Bool, true, false, List, [], ◌∷◌, ◌++◌, map, ℕ, suc, ◌+◌, ◌-◌, ltb, eqb, get_or, take, drop}
use Rattle.relax.specs.declared.LayoutEvent.{LayoutEvent}
use Rattle.relax.specs.Events.{start_of, extent_of, end_of}
use Rattle.buffer.specs.State.{none}
use Rattle.fresh.specs.Pooled.{Pooled}
use Rattle.fresh.specs.Forms.{form, width}

-- "a choice of long jumps, any set of them": an entry for each event in order; past the list's end a jump is short, and an alignment's entry is not read
abbrev pub Choice : Type 0
Choice = List Bool

-- whether the first of the events is long, and the choice for those after it
abbrev pub is_long : Choice → Bool
is_long [] = false
is_long (b ∷ bs) = b

abbrev pub others : Choice → Choice
others [] = []
others (b ∷ bs) = bs

-- what the walk meets, in order: plain bytes, one by one, and events with their recorded bytes
pub data Item : Type 0 where
  plain : ℕ → Item
  event : LayoutEvent → List ℕ → Item

-- the items from a recorded offset on, whose bytes are given: an event stands for its recorded bytes
unfoldable pub items : ℕ → List ℕ → List LayoutEvent → List Item
items offset bytes [] = map plain bytes
items offset bytes (e ∷ es) =
    map plain (take (start_of e - offset) bytes)
    ++ event e (take (extent_of e) (drop (start_of e - offset) bytes)) ∷ items (end_of e) (drop (end_of e - offset) bytes) es

-- the bytes that the walk writes from the new offset n on, on an architecture
unfoldable pub writes : ℕ → ℕ → List Item → Choice → List ℕ
writes arch n [] c = []
writes arch n (plain b ∷ is) c = b ∷ writes arch (suc n) is c
writes arch n (event e bytes ∷ is) c = form arch e bytes (is_long c) n ++ writes arch (n + width e (is_long c) n) is (others c)

-- the new offset at which each event starts, in order
unfoldable pub starts : ℕ → List Item → Choice → List ℕ
starts n [] c = []
starts n (plain b ∷ is) c = starts (suc n) is c
starts n (event e bytes ∷ is) c = n ∷ starts (n + width e (is_long c) n) is (others c)

-- The walk stands at the recorded offset o and the new offset n, and goes on until the next item would carry it past the recorded offset t: the new
-- offset "at which the walk stands on its recorded one with all events of length 0 there passed".
unfoldable pub stands : ℕ → ℕ → ℕ → List Item → Choice → ℕ
stands t o n [] c = n
stands t o n (plain b ∷ is) c = elim (ltb t (suc o)) [ true ↦ n | false ↦ stands t (suc o) (suc n) is c ]
stands t o n (event e bytes ∷ is) c =
    elim (ltb t (o + extent_of e)) [ true ↦ n | false ↦ stands t (o + extent_of e) (n + width e (is_long c) n) is (others c) ]

abbrev pub walk : Pooled → List Item
walk p = items 0 p.code p.events

-- the code with every displacement open
abbrev pub placed : Pooled → Choice → List ℕ
placed p c = writes p.arch 0 (walk p) c

-- the new offset of what was recorded at t; "an unbound label keeps 0xFFFFFFFF"
unfoldable pub moved : Pooled → Choice → ℕ → ℕ
moved p c t = elim (eqb t none) [ true ↦ t | false ↦ stands t 0 0 (walk p) c ]

-- the new offset of a label, by its number
abbrev pub target : Pooled → Choice → ℕ → ℕ
target p c label = moved p c (get_or p.labels label none)
