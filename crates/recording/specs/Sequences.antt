-- How a recording comes about: by calls, and between them by tables that the caller replaces by longer ones.
use Rattle.std.specs.Prelude.{◌≡◌, List, ℕ, ◌*◌, ◌≤◌, length, take}
use Rattle.relax.specs.Events.{event_size}
use Rattle.buffer.specs.Tables.{label_size, use_size, ref_size, constant_size, asked_size, reloc_size}
use Rattle.recording.specs.Calls.{Recording, Call, after}

-- a table u in the place of t: it is no shorter, and the n bytes that are counted are the same
pub record Extends (n : ℕ) (t u : List ℕ) : Type 0 where
  pub longer : length t ≤ length u
  pub same : take n u ≡ take n t

-- the recording s has the counts of r, and such tables
pub record Grown (r s : Recording) : Type 0 where
  pub counts : s.buffer ≡ r.buffer
  pub code : Extends r.buffer.code r.code s.code
  pub labels : Extends (r.buffer.labels * label_size) r.labels s.labels
  pub events : Extends (r.buffer.events * event_size) r.events s.events
  pub uses : Extends (r.buffer.uses * use_size) r.uses s.uses
  pub refs : Extends (r.buffer.refs * ref_size) r.refs s.refs
  pub constants : Extends (r.buffer.constants * constant_size) r.constants s.constants
  pub asked : Extends (r.buffer.asked * asked_size) r.asked s.asked
  pub relocs : Extends (r.buffer.relocs * reloc_size) r.relocs s.relocs

-- what calls, refused ones too, and growth make of r
pub data Leads (r : Recording) : Recording → Type 0 where
  here : Leads r r
  calls : (c : Call) (s : Recording) → Leads r s → Leads r (after c s)
  grows : (s t : Recording) → Leads r s → Grown s t → Leads r t
