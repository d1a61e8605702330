-- The demands, and what is claimed of pooled constants, where a C program meets them: what it has once `wargnifla_finish` has answered, in the bytes that
-- it lent.
use Rattle.std.specs.Prelude.{◌≡◌, ◌≢◌, true, false, List, ℕ, ◌<◌, length, get_or, take}
use Rattle.relax.specs.declared.LayoutEvent.TheVariants.{Jump}
use Rattle.relax.specs.declared.RelaxableJump.{RelaxableJump}
use Rattle.buffer.specs.State.{none}
use Rattle.words.specs.Words.{word_at}
use Rattle.recording.specs.View.{entries, view}
use Rattle.fresh.specs.Pooled.{Pooled, pooled}
use Rattle.fresh.specs.Forms.{moves}
use Rattle.fresh.specs.Demand.{Demand3}
use Rattle.finish.specs.Finish.{Left}
use Rattle.wargnifla.specs.Boundary.{Lent, recording_in}
use Rattle.demands.specs.Demand1.{LentUnchanged}
use Rattle.demands.specs.Demand2.{use_of, ref_of, event_of, Demand2}
use Rattle.demands.specs.Constants.{Constants}

-- what `wargnifla_finish` answers and leaves: the answer, the counts, the tables and the output, and the record
abbrev pub Answer : Type 0
Answer = ℕ × (List ℕ × (Left × List ℕ))

-- the output, the labels, the relocations, the record, and its words
abbrev pub output_of : Answer → List ℕ
output_of a = a.1.1.0.1.1.1

abbrev pub labels_of : Answer → List ℕ
labels_of a = a.1.1.0.0

abbrev pub relocs_of : Answer → List ℕ
relocs_of a = a.1.1.0.1.0

abbrev pub record_in : Answer → List ℕ
record_in a = a.1.1.1

abbrev pub word_of : Answer → ℕ → ℕ
word_of a k = word_at (record_in a) k

-- the finished code: as many bytes of the output as word 1 of the record says
abbrev pub finished_code : Answer → List ℕ
finished_code a = take (word_of a 1) (output_of a)

-- the labels' offsets in the table that was lent
abbrev pub offsets_of : Lent → Answer → List ℕ
offsets_of l a = entries (word_at (labels_of a)) (recording_in l).buffer.labels

-- the pooled recording of what is lent
abbrev pub pooled_in : Lent → Pooled
pooled_in l = pooled (recording_in l).buffer.arch (view (recording_in l))

-- every label that a use, a ref or a jump names is bound in what is handed out
pub record LabelsBound (l : Lent) (a : Answer) : Type 0 where
  pub uses : (i : ℕ) → i < length (pooled_in l).uses → get_or (offsets_of l a) (use_of (pooled_in l) i).label none ≢ none
  pub refs : (i : ℕ) → i < length (pooled_in l).refs → get_or (offsets_of l a) (ref_of (pooled_in l) i).label none ≢ none
  pub jumps : (i : ℕ) (v : RelaxableJump) → i < length (pooled_in l).events → event_of (pooled_in l) i ≡ Jump v → get_or (offsets_of l a) v.label none ≢ none

-- The three demands of a finish. A number is answered: recording and output are unchanged. 0 is: the finished code meets demand 2. Where a jump stands, the
-- code, the labels' offsets, its length (word 1) and the layouts (word 3) meet demand 3; where none does, the offsets are those recorded, and the pool's.
-- Of pooled constants the code, the offsets and the alignment (word 2) are as claimed.
pub record Demands (l : Lent) (output finalized : List ℕ) (a : Answer) : Type 0 where
  pub one : a.0 ≢ 0 → LentUnchanged l output finalized a
  pub two : a.0 ≡ 0 → Demand2 (recording_in l) (finished_code a)
  pub three : a.0 ≡ 0 → moves (pooled_in l).events ≡ true
      → Demand3 (pooled_in l) (finished_code a) (offsets_of l a) (word_of a 1) (word_of a 3)
  pub unmoved : a.0 ≡ 0 → moves (pooled_in l).events ≡ false → offsets_of l a ≡ (pooled_in l).labels
  pub bound : a.0 ≡ 0 → LabelsBound l a
  pub constants : a.0 ≡ 0 → Constants (view (recording_in l)) (finished_code a) (offsets_of l a) (word_of a 2)
