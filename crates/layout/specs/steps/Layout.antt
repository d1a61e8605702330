-- The table of segments, what a layout leaves in it, and the rounds by segments.
use Rattle.std.specs.Prelude.{◌≡◌, ◌≢◌, true, false, List, ◌++◌, ℕ, zero, suc, ◌+◌, ◌-◌, ◌*◌, ◌≤◌, ◌<◌, length, get_or}
use Rattle.seqs.specs.Over.{over}
use Rattle.words.specs.Words.{word_at}
use Rattle.relax.specs.declared.LayoutEvent.{LayoutEvent}
use Rattle.relax.specs.declared.Segment.{Segment}
use Rattle.relax.specs.Events.{event_at, end_of, start_of, event_size}
use Rattle.buffer.specs.State.{none}
use Rattle.buffer.specs.Tables.{most_code, label_size}
use Rattle.recording.specs.View.{entries}
use Rattle.fresh.specs.Forms.{Branch, branches, role_of}
use Rattle.fresh.specs.Fresh.{Choice}
use Rattle.fresh.specs.Rounds.{Settled, all_short, jumps, far_of, any, join}
use Rattle.fresh.specs.Segments.{segments, map_offset}
use Rattle.fresh.specs.Order.{Ordered}
use Rattle.fresh.specs.steps.Runs.{Small, Modest, new_starts, after}
use Rattle.pool.specs.steps.Pool.{pool_event, offset_bound}

-- all zeros: the segment before the first, and what a table has past its end
abbrev pub zero_segment : Segment
zero_segment = record { old_start = 0; old_end = 0; new_start = 0; new_end = 0 }

-- where segment i starts in the recording
abbrev pub start_at : List Segment → ℕ → ℕ
start_at ss i = (get_or ss i zero_segment).old_start

-- what `map` is handed: the recorded starts of the first n segments rise, and new offsets are small
pub record Rising (ss : List Segment) (n : ℕ) : Type 0 where
  pub fits : n ≤ length ss
  pub rises : (i j : ℕ) → i ≤ j → j < n → start_at ss i ≤ start_at ss j
  pub small : (i : ℕ) → i < n → ((get_or ss i zero_segment).new_start ≤ offset_bound) × ((get_or ss i zero_segment).new_end ≤ offset_bound)

-- what is searched: the recorded starts of the first n segments rise
pub record Sorted (ss : List Segment) (n : ℕ) : Type 0 where
  pub fits : n ≤ length ss
  pub rises : (i j : ℕ) → i ≤ j → j < n → start_at ss i ≤ start_at ss j

-- of the first n segments those before lo start at or before an offset, those from hi on after it
pub record Between (ss : List Segment) (n offset lo hi : ℕ) : Type 0 where
  pub order : lo ≤ hi
  pub within : hi ≤ n
  pub under : (j : ℕ) → j < lo → start_at ss j ≤ offset
  pub above : (j : ℕ) → hi ≤ j → j < n → offset < start_at ss j

-- an event of modest size that follows the recorded offset `old`, where its new offsets are small
pub record Follows (event : LayoutEvent) (old new : ℕ) : Type 0 where
  pub order : old ≤ start_of event
  pub modest : Small event
  pub ends : end_of event ≤ offset_bound
  pub small : new + (start_of event - old) ≤ offset_bound

-- what a layout is handed for the recorded events: n entries that lie in their table, follow one another in `code` bytes, and are modest
pub record Recorded (events : List ℕ) (n code : ℕ) : Type 0 where
  pub room : n * event_size ≤ length events
  pub ordered : Ordered 0 code (entries (event_at events) n)
  pub modest : Modest (entries (event_at events) n)
  pub small : code ≤ most_code

-- the recorded events, and after them the alignments of the pool that starts where the code ends
abbrev pub all_events : List ℕ → ℕ → ℕ → List ℕ → List ℕ → ℕ → List LayoutEvent
all_events events n code constants asked m = entries (event_at events) n ++ entries (pool_event code constants asked) m

-- the new offset of what was recorded at `total`, past the last event
abbrev pub end_from : ℕ → ℕ → List LayoutEvent → Choice → ℕ → ℕ
end_from o n es c total = (after (length es) o n es c).new + (total - (after (length es) o n es c).old)

-- the finished length, of a recording of `total` bytes
abbrev pub finished_length : List LayoutEvent → Choice → ℕ → ℕ
finished_length es c total = end_from 0 0 es c total

-- the segments of these events stand over the first of a table, and the last event ends at the recorded offset `old` and the new offset `new`
pub record Laid (before ss : List Segment) (es : List LayoutEvent) (c : Choice) (old new : ℕ) : Type 0 where
  pub table : ss ≡ over before 0 (segments 0 0 es c)
  pub here : after (length es) 0 0 es c ≡ record { old = old; new = new }

-- the label that an event names lies in its table, and is unbound or small
pub record Known (event : LayoutEvent) (labels : List ℕ) : Type 0 where
  pub room : (b : Branch) → role_of event ≡ branches b → b.label * label_size + label_size ≤ length labels
  pub small : (b : Branch) → role_of event ≡ branches b → word_at labels b.label ≢ none → word_at labels b.label ≤ offset_bound

-- so for each of the first n events
pub record Labelled (events labels : List ℕ) (n : ℕ) : Type 0 where
  pub known : (i : ℕ) → i < n → Known (event_at events i) labels

-- which events a round lengthens, as segments say; `at` knows the recorded offset of a label by its number
abbrev pub far_in : List Segment → (ℕ → ℕ) → List LayoutEvent → Choice → Choice
far_in ss at es c = far_of (λ (l : ℕ). map_offset ss (at l)) es c (new_starts ss)

-- the same by the layout of the choice
abbrev pub far_by : List LayoutEvent → (ℕ → ℕ) → Choice → Choice
far_by es at c = far_in (segments 0 0 es c) at es c

-- The rounds by segments, as `settle` has them by the walk: at most k of them lengthen a jump.
unfoldable pub relaxing : ℕ → List LayoutEvent → (ℕ → ℕ) → Choice → Settled
relaxing zero es at c = record { choice = c; rounds = 1 }
relaxing (suc k) es at c = elim (any (far_by es at c)) [
  | false ↦ record { choice = c; rounds = 1 }
  | true ↦ record {
    choice = (relaxing k es at (join c (far_by es at c))).choice;
    rounds = suc (relaxing k es at (join c (far_by es at c))).rounds;
  }
]

-- all rounds from a choice on, of labels that `at` knows; and from no jump long, of a list of labels
abbrev pub relaxed_by : List LayoutEvent → (ℕ → ℕ) → Choice → Settled
relaxed_by es at c = relaxing (jumps es) es at c

abbrev pub relaxed : List LayoutEvent → List ℕ → Settled
relaxed es labels = relaxed_by es (λ (l : ℕ). get_or labels l none) (all_short es)

-- What the rounds from the choice `first` on leave of these events, `at` knowing the recorded offsets of labels and `total` being the recorded length:
-- the settled choice, its layout in the table, the number of layouts made, and the finished length.
pub record Relaxed (es : List LayoutEvent) (at : ℕ → ℕ) (first : Choice) (total : ℕ) (before ss : List Segment) (long : Choice) (layouts len : ℕ) : Type 0 where
  pub choice : long ≡ (relaxed_by es at first).choice
  pub rounds : layouts ≡ (relaxed_by es at first).rounds
  pub table : ss ≡ over before 0 (segments 0 0 es (relaxed_by es at first).choice)
  pub finished : len ≡ finished_length es (relaxed_by es at first).choice total
