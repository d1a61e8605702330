-- A recording with the right number of open entries in the place of the one that it keeps, and what counting them asks of its tables.
use Rattle.std.specs.Prelude.{ℕ, ◌*◌, ◌≤◌, length}
use Rattle.buffer.specs.State.{with_open}
use Rattle.buffer.specs.Tables.{label_size}
use Rattle.buffer.specs.steps.Count.{NamersFit}
use Rattle.recording.specs.Calls.{Recording, with_buffer}
use Rattle.recording.specs.View.{view}
use Rattle.recording.specs.Open.{open_of}

-- the recording with another number, and with the right one
abbrev pub with_number : Recording → ℕ → Recording
with_number r n = with_buffer r (with_open r.buffer n)

abbrev pub righted : Recording → Recording
righted r = with_number r (open_of (view r))

-- the tables whose entries name labels, and the labels, have room for what is counted of them
pub record Fitting (r : Recording) : Type 0 where
  pub namers : NamersFit r.buffer r.events r.uses r.refs r.relocs
  pub labels : r.buffer.labels * label_size ≤ length r.labels
