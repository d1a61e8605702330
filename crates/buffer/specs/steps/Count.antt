-- How many entries are open, counted over the tables. `open_of` (recording/specs/Open) says it of the recording seen as lists.
use Rattle.std.specs.Prelude.{List, ℕ, ◌+◌, ◌*◌, ◌≤◌, length}
use Rattle.relax.specs.Events.{event_size}
use Rattle.naming.specs.steps.Open.{open_entries, open_jumps}
use Rattle.buffer.specs.declared.CodeBuffer.{CodeBuffer}
use Rattle.buffer.specs.State.{label_target}
use Rattle.buffer.specs.Tables.{most_entries, use_words, use_size, ref_words, ref_size, reloc_words, reloc_size}

-- the counts of the tables whose entries name labels fit what is lent, and are within the limit
pub record NamersFit (b : CodeBuffer) (events uses refs relocs : List ℕ) : Type 0 where
  pub events_room : b.events * event_size ≤ length events
  pub uses_room : b.uses * use_size ≤ length uses
  pub refs_room : b.refs * ref_size ≤ length refs
  pub relocs_room : b.relocs * reloc_size ≤ length relocs
  pub events_few : b.events ≤ most_entries
  pub uses_few : b.uses ≤ most_entries
  pub refs_few : b.refs ≤ most_entries
  pub relocs_few : b.relocs ≤ most_entries

-- uses, refs, label relocations and jumps that are open
unfoldable pub open_count : CodeBuffer → List ℕ → List ℕ → List ℕ → List ℕ → List ℕ → ℕ
open_count b labels events uses refs relocs =
    open_entries uses b.uses use_words 1 0 labels b.labels
    + open_entries refs b.refs ref_words 1 0 labels b.labels
    + open_entries relocs b.relocs reloc_words 2 label_target labels b.labels
    + open_jumps events b.events labels b.labels
