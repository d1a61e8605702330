-- Events and their table: document 01, "an event read from its columns is a jump with its condition, or an alignment"; document 02,
-- Request Seven: an alignment "carries the most bytes it may spend"; Request Eight: "A recorded 4-byte conditional branch of code 9 or 10".
use Rattle.std.specs.Prelude.{Bool, ◌||◌, List, ℕ, ◌+◌, ◌*◌, eqb}
use Rattle.seqs.specs.Pick.{pick}
use Rattle.words.specs.Words.{word_at, set_word}
use Rattle.relax.specs.declared.Condition.{Condition}
use Rattle.relax.specs.declared.Condition.TheVariants.{Always, On}
use Rattle.relax.specs.declared.LayoutEvent.{LayoutEvent}
use Rattle.relax.specs.declared.LayoutEvent.TheVariants.{Jump, Align, Far}

-- condition 0 to 15; 16 none
abbrev pub no_condition : ℕ
no_condition = 16

unfoldable pub condition_of : ℕ → Condition
condition_of n = pick (eqb n no_condition) Always (On n)

-- the most bytes that a jump is recorded with
abbrev pub most_jump : ℕ
most_jump = 15

-- the bytes of a short jump, and of a long one: document 01, "Short is 2 bytes", "Long is E9 (5 bytes), or 0F, 80 + condition (6)"
abbrev pub short_len : ℕ
short_len = 2

abbrev pub long_len : Condition → ℕ
long_len Always = 5
long_len (On c) = 6

-- an entry of the table: its words, its bytes, and the kinds that stand in its first column
abbrev pub event_words : ℕ
event_words = 5

abbrev pub event_size : ℕ
event_size = 20

abbrev pub jump_kind : ℕ
jump_kind = 1

abbrev pub alignment_kind : ℕ
alignment_kind = 2

abbrev pub branch_kind : ℕ
branch_kind = 3

-- the kinds whose fourth column is a label
unfoldable pub names_label : ℕ → Bool
names_label kind = eqb kind jump_kind || eqb kind branch_kind

-- the bytes that a branch is recorded with, and of its long form
abbrev pub branch_len : ℕ
branch_len = 4

abbrev pub far_len : ℕ
far_len = 8

-- the columns of an event: kind (a jump's, a branch's, else an alignment), start, length, label or multiple, condition, the most bytes of padding or code
unfoldable pub event_of : ℕ → ℕ → ℕ → ℕ → ℕ → LayoutEvent
event_of kind start len what how =
    pick (eqb kind jump_kind) (Jump (record { start = start; len = len; label = what; cc = condition_of how }))
    (pick (eqb kind branch_kind) (Far (record { start = start; len = len; label = what; code = how }))
    (Align (record { start = start; len = len; align = what; most = how })))

-- event i of the table
unfoldable pub event_at : List ℕ → ℕ → LayoutEvent
event_at events i =
    event_of (word_at events (i * event_words)) (word_at events (i * event_words + 1)) (word_at events (i * event_words + 2)) (word_at events (i * event_words + 3)) (word_at events (i * event_words + 4))

-- the table with these columns as event i
unfoldable pub set_event : List ℕ → ℕ → ℕ → ℕ → ℕ → ℕ → ℕ → List ℕ
set_event events i kind start len what how =
    set_word (set_word (set_word (set_word (set_word events (i * event_words) kind) (i * event_words + 1) start) (i * event_words + 2) len) (i * event_words + 3) what) (i * event_words + 4) how

-- where an event was recorded, how many bytes of it were, and the offset after it
abbrev pub start_of : LayoutEvent → ℕ
start_of (Jump j) = j.start
start_of (Align a) = a.start
start_of (Far f) = f.start

abbrev pub extent_of : LayoutEvent → ℕ
extent_of (Jump j) = j.len
extent_of (Align a) = a.len
extent_of (Far f) = f.len

abbrev pub end_of : LayoutEvent → ℕ
end_of e = start_of e + extent_of e

-- what a list of events has past its end
abbrev pub no_event : LayoutEvent
no_event = Align (record { start = 0; len = 0; align = 0; most = 0 })
