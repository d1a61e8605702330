-- A sheet of many binds does not keep the number of open entries from call to call: what it goes on from stands for a recording with the right one.
use Rattle.std.specs.Prelude.{◌≡◌, Bool, false, ◌≤◌}
use Rattle.seqs.specs.Pick.{pick}
use Rattle.buffer.specs.Tables.{most_open}
use Rattle.recording.specs.Calls.{Recording}
use Rattle.recording.specs.steps.Righted.{righted, Fitting}

-- the recording itself where the number is kept, else that with the right one
abbrev pub meant : Bool → Recording → Recording
meant kept r = pick kept r (righted r)

-- from such a recording calls may be made
pub record Going (kept : Bool) (r : Recording) : Type 0 where
  pub fitting : Fitting r
  pub few : kept ≡ false → r.buffer.unresolved ≤ most_open
