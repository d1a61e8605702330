-- Which entries of a table name a label that is not bound, and how many.
use Rattle.std.specs.Prelude.{Bool, ◌&&◌, ◌||◌, List, ℕ, ◌+◌, ◌-◌, ◌*◌, eqb, leb}
use Rattle.seqs.specs.Counting.{how_many}
use Rattle.words.specs.Words.{word_at}
use Rattle.relax.specs.Events.{event_words, names_label}
use Rattle.naming.specs.Naming.{unbound}

-- the label is none of the first `known`, or not bound
unfoldable pub is_open_at : List ℕ → ℕ → ℕ → Bool
is_open_at labels known label = leb known label || eqb (word_at labels label) unbound

-- a word from `base` on names a label, by its number and `base`: that label is open
abbrev pub opens_at : List ℕ → ℕ → ℕ → ℕ → Bool
opens_at labels known base word = leb base word && is_open_at labels known (word - base)

-- how many of the first n entries, of `stride` words, name an open label in word `at`
unfoldable pub open_entries : List ℕ → ℕ → ℕ → ℕ → ℕ → List ℕ → ℕ → ℕ
open_entries table n stride at base labels known = how_many (λ (i : ℕ). opens_at labels known base (word_at table (i * stride + at))) n

-- how many of the first n events are jumps to an open label
unfoldable pub open_jumps : List ℕ → ℕ → List ℕ → ℕ → ℕ
open_jumps events n labels known =
    how_many (λ (i : ℕ). names_label (word_at events (i * event_words)) && is_open_at labels known (word_at events (i * event_words + 3))) n
