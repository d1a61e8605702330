-- Demand 1, of a finish: "a refused finish leaves recording and output unchanged", and gives a record of zeros. That every call accepts all inputs and refuses by
-- number is in the contracts: none has a `requires`.
use Rattle.std.specs.Prelude.{◌≡◌, List, ℕ, ◌≤◌, length}
use Rattle.words.specs.Words.{over_words}
use Rattle.recording.specs.Calls.{Recording}
use Rattle.finish.specs.declared.CodeBufferFinalized.{CodeBufferFinalized}
use Rattle.finish.specs.Finish.{Finished, Left}
use Rattle.wargnifla.specs.Boundary.{record_size, record_of, Lent}

abbrev pub zeros : CodeBufferFinalized
zeros = record { arch = 0; len = 0; alignment = 0; layouts = 0; labels = 0; relocs = 0 }

-- the counts, the tables that finish may write to, and the output; the other tables are lent to be read alone
pub record Unchanged (r : Recording) (output : List ℕ) (answer : Finished × Left) : Type 0 where
  pub counts : answer.0.buffer ≡ r.buffer
  pub given : answer.0.code ≡ zeros
  pub labels : answer.1.0 ≡ r.labels
  pub relocs : answer.1.1.0 ≡ r.relocs
  pub written : answer.1.1.1.1 ≡ output

-- the same of the C function: the lent counts, the tables that it may write to, and the output; a record that has room is zeros
pub record LentUnchanged (l : Lent) (output finalized : List ℕ) (answer : ℕ × (List ℕ × (Left × List ℕ))) : Type 0 where
  pub counts : answer.1.0 ≡ l.counts
  pub labels : answer.1.1.0.0 ≡ l.labels
  pub relocs : answer.1.1.0.1.0 ≡ l.relocs
  pub written : answer.1.1.0.1.1.1 ≡ output
  pub given : record_size ≤ length finalized → answer.1.1.1 ≡ over_words finalized (record_of zeros)
