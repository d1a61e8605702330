-- The number of open entries where a C program meets it, in word 12 of the counts: document 02, Request Five.
use Rattle.std.specs.Prelude.{◌≡◌, ◌≢◌, List, ℕ, ◌+◌, ◌-◌, ◌≤◌, length}
use Rattle.refusals.specs.Numbers as refusals
use Rattle.words.specs.Words.{word_at}
use Rattle.relax.specs.declared.Segment.{Segment}
use Rattle.buffer.specs.Refusals.{standing}
use Rattle.recording.specs.View.{view}
use Rattle.recording.specs.Open.{open_of, settled_by}
use Rattle.checks.specs.Lent.{counts_fit, within_limits}
use Rattle.finish.specs.Refusals.{why_unfit}
use Rattle.wargnifla.specs.Boundary.{Lent, lent_of, recording_in}
use Rattle.demands.specs.Boundary.{Answer, labels_of, relocs_of}

-- the number that the counts hold
abbrev pub kept_in : Lent → ℕ
kept_in l = word_at l.counts 12

-- "the count over the tables, where unknown labels count as unbound"
abbrev pub open_in : Lent → ℕ
open_in l = open_of (view (recording_in l))

-- One call that is handed l and leaves m: "Every call that is handed the right one keeps it equal to the count ..; a wrong one changes by as much, never
-- below 0".
abbrev pub CallKeeps : Lent → Lent → Type 0
CallKeeps l m = kept_in m ≡ kept_in l + open_in m - open_in l

-- A sheet is many calls. The right number stays right; one that is too great stays too great by as much; one that is too small does not become too great,
-- and is short by no more than before.
pub record SheetKeeps (l m : Lent) : Type 0 where
  pub right : kept_in l ≡ open_in l → kept_in m ≡ open_in m
  pub above : open_in l ≤ kept_in l → kept_in m + open_in l ≡ kept_in l + open_in m
  pub below : kept_in l ≤ open_in l → (kept_in m ≤ open_in m) × (kept_in l + open_in m ≤ kept_in m + open_in l)

-- what is lent once a finish has answered
abbrev pub left_by : Lent → Answer → Lent
left_by l a = lent_of a.1.0 l.code (labels_of a) l.events l.uses l.refs l.constants l.asked (relocs_of a)

-- A finish whose counts and record have their bytes.
pub record FinishCounts (l : Lent) (ss : List Segment) (output : List ℕ) (a : Answer) : Type 0 where
  -- "It answers 1 to any other wrong number handed in, after a recorded refusal, 3 and 4."
  pub wrong : standing (recording_in l).buffer (counts_fit (recording_in l)) (within_limits (recording_in l) (length ss) (length output)) ≡ 0
      → kept_in l ≢ open_in l → a.0 ≡ refusals.malformed
  -- "Finish pools constants first and subtracts the entries which their labels settle, and 15 follows, where nothing before it applies, exactly if something
  -- remains."
  pub remains : why_unfit (recording_in l) (length ss) (length output) ≡ 0 → kept_in l - settled_by (view (recording_in l)) ≢ 0 → a.0 ≡ refusals.unbound_label
  pub settled : why_unfit (recording_in l) (length ss) (length output) ≡ 0 → kept_in l - settled_by (view (recording_in l)) ≡ 0 → a.0 ≢ refusals.unbound_label
  -- where it answers 0, nothing is open in what it leaves, and the number says so
  pub left : a.0 ≡ 0 → (kept_in (left_by l a) ≡ 0) × (open_in (left_by l a) ≡ 0)
