-- Each jump's and branch's label found once. While the rounds run, a row of the table of segments holds, in a segment's places:
--   old_start  the event's recorded start
--   old_end    of a jump, `beyond`: how far its label lies past the end of the events that it passes
--   new_start  of a jump, `passed`: how many events these are; 0xFFFFFFFF where the event is no jump
--   new_end    the event's new end, under the choice of the round
-- So a round looks nothing up: whatever the choice, the label stands `beyond` bytes past the new end of the first `passed` events.
use Rattle.std.specs.Prelude.{◌≡◌, ◌≢◌, Bool, true, false, not, cond, ◌&&◌, List, [], ℕ, zero, suc, ◌+◌, ◌-◌, ◌*◌, ◌≤◌, ◌<◌, ltb, leb, eqb, length, get_or, Option, Some, None, unwrap_or}
use Rattle.seqs.specs.Over.{over}
use Rattle.relax.specs.declared.LayoutEvent.{LayoutEvent}
use Rattle.relax.specs.declared.Segment.{Segment}
use Rattle.relax.specs.Events.{event_at, start_of, end_of, event_size, no_event}
use Rattle.buffer.specs.State.{none}
use Rattle.buffer.specs.Tables.{most_entries}
use Rattle.recording.specs.View.{entries}
use Rattle.fresh.specs.Forms.{Branch, Role, pads, branches, role_of}
use Rattle.fresh.specs.Fresh.{Choice}
use Rattle.fresh.specs.Segments.{segments, map_offset}
use Rattle.fresh.specs.Order.{Ordered}
use Rattle.fresh.specs.steps.Runs.{behind_of, ahead_of, after, segment_at}
use Rattle.pool.specs.steps.Pool.{pool_start, pool_event, offset_bound}
use Rattle.layout.specs.declared.Target.{Target}
use Rattle.layout.specs.steps.Layout.{zero_segment, start_at, end_from}

-- a label's offset minus the end of an event's short form lies as near as the event reaches: of a jump in -128..127
abbrev pub in_reach : LayoutEvent → ℕ → ℕ → Bool
in_reach e end label = leb end (label + behind_of e) && leb label (end + ahead_of e)

-- the recorded end of event i: of the first n by their table, of the pool's by their segment
abbrev pub end_in : List Segment → List ℕ → ℕ → ℕ → ℕ
end_in ss events n i = cond (ltb i n) (end_of (event_at events i)) (get_or ss i zero_segment).old_end

-- the recorded end of the first k events
abbrev pub old_end_before : List Segment → List ℕ → ℕ → ℕ → ℕ
old_end_before ss events n zero = 0
old_end_before ss events n (suc k) = end_in ss events n k

-- what is read for that end lies in its table
pub record Stands (ss : List Segment) (events : List ℕ) (n i : ℕ) : Type 0 where
  pub read : i < n → (i * event_size + event_size ≤ length events) × (end_of (event_at events i) ≤ offset_bound)
  pub room : i < length ss

-- What labels are looked up in: the table has the recorded starts of these events, the first n of which are those of their own table, and the ends of
-- the others.
pub record Shown (es : List LayoutEvent) (ss : List Segment) (events : List ℕ) (n all : ℕ) : Type 0 where
  pub count : length es ≡ all
  pub few : all ≤ most_entries
  pub fits : all ≤ length ss
  pub room : n * event_size ≤ length events
  pub len : ℕ
  pub ordered : Ordered 0 len es
  pub small : len ≤ offset_bound
  pub recorded : (i : ℕ) → i < n → i < all → event_at events i ≡ get_or es i no_event
  pub starts : (i : ℕ) → i < all → start_at ss i ≡ start_of (get_or es i no_event)
  pub ends : (i : ℕ) → n ≤ i → i < all → (get_or ss i zero_segment).old_end ≡ end_of (get_or es i no_event)

-- Under every choice of long jumps, what was recorded at t comes to stand `beyond` bytes past the new end of the first `passed` events.
pub record Finds (es : List LayoutEvent) (t passed beyond : ℕ) : Type 0 where
  pub count : passed ≤ length es
  pub small : 0 < passed → beyond ≤ offset_bound
  pub word : beyond ≤ none
  pub there : (c : Choice) → map_offset (segments 0 0 es c) t ≡ beyond + (after passed 0 0 es c).new

-- so for the label that an event names, whose recorded offset `at` knows by its number
pub record Aims (es : List LayoutEvent) (at : ℕ → ℕ) (e : LayoutEvent) (passed beyond : ℕ) : Type 0 where
  pub rests : role_of e ≡ pads → passed ≡ none
  pub finds : (b : Branch) → role_of e ≡ branches b → Finds es (at b.label) passed beyond

-- the label that an event names
abbrev pub label_of : Role → Option ℕ
label_of pads = None
label_of (branches b) = Some b.label

-- what a row holds of a target, or of none
abbrev pub held : Option Target → Target
held target = unwrap_or target (record { passed = none; beyond = 0 })

-- the first n rows do
pub record Aiming (es : List LayoutEvent) (at : ℕ → ℕ) (events : List ℕ) (n : ℕ) (ss : List Segment) : Type 0 where
  pub aims : (i : ℕ) → i < n → Aims es at (event_at events i) (get_or ss i zero_segment).new_start (get_or ss i zero_segment).old_end

-- two tables that differ at most in their first k entries
pub record SamePast (k : ℕ) (before ss : List Segment) : Type 0 where
  pub sized : length ss ≡ length before
  pub same : (i : ℕ) → k ≤ i → get_or ss i zero_segment ≡ get_or before i zero_segment

-- a row with another target, and with another new end
abbrev pub with_target : Segment → ℕ → ℕ → Segment
with_target row passed beyond = record { old_start = row.old_start; old_end = beyond; new_start = passed; new_end = row.new_end }

abbrev pub with_end : Segment → ℕ → Segment
with_end row end = record { old_start = row.old_start; old_end = row.old_end; new_start = row.new_start; new_end = end }

-- row i with the new end of event i under a choice
abbrev pub ended_row : List Segment → List LayoutEvent → Choice → ℕ → Segment
ended_row ss es c i = with_end (get_or ss i zero_segment) (after (suc i) 0 0 es c).new

-- the first i rows have the new ends of these events under a choice, the other rows are as before, and the layout has come to `old` and `new`
pub record Ended (before ss : List Segment) (es : List LayoutEvent) (c : Choice) (i old new : ℕ) : Type 0 where
  pub table : ss ≡ over before 0 (entries (ended_row before es c) i)
  pub here : after i 0 0 es c ≡ record { old = old; new = new }

-- Of the first i rows each is what `kept` makes of it and of its event's segment under a choice, the other rows are as before, and the layout has come to
-- `old` and `new`.
pub record Kept (kept : Segment → Segment → Segment → Type 0) (before ss : List Segment) (es : List LayoutEvent) (c : Choice) (i old new : ℕ) : Type 0 where
  pub rows : (j : ℕ) → j < i → kept (get_or before j zero_segment) (segment_at j 0 0 es c) (get_or ss j zero_segment)
  pub rest : SamePast i before ss
  pub here : after i 0 0 es c ≡ record { old = old; new = new }

-- so of all n events; the pool's alignments follow them, and the layout is `len` bytes long
pub record LaidBy (kept : Segment → Segment → Segment → Type 0) (before ss : List Segment) (events : List ℕ) (n code : ℕ) (constants asked : List ℕ) (m : ℕ) (c : Choice) (len : ℕ) : Type 0 where
  pub rows : List Segment
  pub old : ℕ
  pub new : ℕ
  pub recorded : Kept kept before rows (entries (event_at events) n) c n old new
  pub order : old ≤ code
  pub pooled : ss ≡ over rows n (segments code (new + (code - old)) (entries (pool_event code constants asked) m) [])
  pub length : len ≡ end_from code (new + (code - old)) (entries (pool_event code constants asked) m) [] (pool_start code constants asked m)

-- the new end of the first k events
abbrev pub end_before : List Segment → ℕ → ℕ
end_before ss zero = 0
end_before ss (suc k) = (get_or ss k zero_segment).new_end

-- a jump's label, by its row: the sum is a word
pub record Adds (ss : List Segment) (row : Segment) : Type 0 where
  pub count : row.new_start ≢ none → row.new_start ≤ length ss
  pub sum : row.new_start ≢ none → row.old_end + end_before ss row.new_start < 4294967296

-- the event of a row is a jump or branch that, were it short, would not reach
unfoldable pub is_missed : List Segment → LayoutEvent → Segment → Bool
is_missed ss e row = elim (eqb row.new_start none) [ true ↦ false | false ↦ not (in_reach e row.new_end (row.old_end + end_before ss row.new_start)) ]

-- event i, long or not, is a short jump or branch that does not reach
abbrev pub is_missed_at : List Segment → List ℕ → Bool → ℕ → Bool
is_missed_at ss events long i = not long && is_missed ss (event_at events i) (get_or ss i zero_segment)

-- which of the first n events a round lengthens, by their rows
abbrev pub missed : List Segment → List ℕ → Choice → ℕ → Choice
missed ss events c n = entries (λ (i : ℕ). is_missed_at ss events (get_or c i false) i) n

-- the table has the new ends of these events under a choice
pub record Ends (es : List LayoutEvent) (c : Choice) (ss : List Segment) : Type 0 where
  pub ends : (i : ℕ) → i < length es → (get_or ss i zero_segment).new_end ≡ (after (suc i) 0 0 es c).new

-- What a round's layout leaves of a table: the new ends of these events under a choice, the other places of the first n rows as they were, and all past
-- the events.
pub record Placed (before ss : List Segment) (es : List LayoutEvent) (n : ℕ) (c : Choice) : Type 0 where
  pub placed : Ends es c ss
  pub passed : (i : ℕ) → i < n → (get_or ss i zero_segment).new_start ≡ (get_or before i zero_segment).new_start
  pub beyond : (i : ℕ) → i < n → (get_or ss i zero_segment).old_end ≡ (get_or before i zero_segment).old_end
  pub rest : SamePast (length es) before ss
