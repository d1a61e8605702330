-- Which entries of a table name a label, and how many: document 02, Request Five, "how many label uses, refs, jumps and label relocations point to an
-- unbound label". A bind settles those that name its label.
use Rattle.std.specs.Prelude.{Bool, ◌&&◌, List, ℕ, ◌+◌, ◌*◌, eqb}
use Rattle.seqs.specs.Counting.{how_many}
use Rattle.words.specs.Words.{word_at}
use Rattle.relax.specs.Events.{event_words, names_label}

-- the offset of a label that is not bound
abbrev pub unbound : ℕ
unbound = 4294967295

-- entry i, of `stride` words, has the value in word `at`
abbrev pub holds_at : List ℕ → ℕ → ℕ → ℕ → ℕ → Bool
holds_at table stride at value i = eqb (word_at table (i * stride + at)) value

-- how many of the first n entries do
unfoldable pub naming : List ℕ → ℕ → ℕ → ℕ → ℕ → ℕ
naming table n stride at value = how_many (holds_at table stride at value) n

-- event i is a jump or a branch to the label
abbrev pub jump_names : List ℕ → ℕ → ℕ → Bool
jump_names events label i = names_label (word_at events (i * event_words)) && eqb (word_at events (i * event_words + 3)) label

-- how many of the first n events are
unfoldable pub jumps_naming : List ℕ → ℕ → ℕ → ℕ
jumps_naming events n label = how_many (jump_names events label) n
