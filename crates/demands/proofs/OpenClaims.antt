-- What is claimed of the number of open entries at the C functions, restated in full: document 02, Request Five.
use mathlib.Core.Path.{◌≡◌}
use mathlib.Core.Logic.{◌≢◌}
use mathlib.Core.List.{List}
use Prim.Native.Nat.{ℕ, ◌+◌, ◌-◌, ◌≤◌}
use lib.ListN.{length}
use Rattle.words.specs.Words.{word_at}
use Rattle.relax.specs.declared.Segment.{Segment}
use Rattle.buffer.specs.Refusals.{standing}
use Rattle.recording.specs.Calls.{Word, Word64}
use Rattle.recording.specs.View.{view}
use Rattle.recording.specs.Open.{open_of, settled_by}
use Rattle.checks.specs.Lent.{counts_fit, within_limits}
use Rattle.finish.specs.Refusals.{why_unfit}
use Rattle.wargnifla.specs.Boundary.{Lent, lent_of, recording_in, run_sheet, finish}
use Rattle.wargnifla.specs.Sequences.{after_bytes, after_align, after_constant, after_reloc}
use Rattle.demands.specs.Demand2.{Bytes}
use Rattle.demands.specs.Boundary.{labels_of, relocs_of}
use Rattle.demands.proofs.OpenCount as counting
use Rattle.demands.proofs.OpenFinish as finishing

-- the number that is kept, and the count over the tables
abbrev number : Lent → ℕ
number l = word_at l.counts 12

abbrev open·in : Lent → ℕ
open·in l = open_of (view (recording_in l))

module _ (l : Lent) (bytes : Bytes l.counts) where
  c_bytes_keep_count : (bs : List ℕ) → number (after_bytes bs l) ≡ number l + open·in (after_bytes bs l) - open·in l
  c_bytes_keep_count bs = counting.c_bytes_keep_count bs l bytes

  c_align_keeps_count : (multiple most : Word) → number (after_align multiple most l) ≡ number l + open·in (after_align multiple most l) - open·in l
  c_align_keeps_count multiple most = counting.c_align_keeps_count multiple most l bytes

  c_constant_keeps_count : (bs : List ℕ) → number (after_constant bs l) ≡ number l + open·in (after_constant bs l) - open·in l
  c_constant_keeps_count bs = counting.c_constant_keeps_count bs l bytes

  c_reloc_keeps_count : (offset kind target : Word) (addend : Word64)
      → number (after_reloc offset kind target addend l) ≡ number l + open·in (after_reloc offset kind target addend l) - open·in l
  c_reloc_keeps_count offset kind target addend = counting.c_reloc_keeps_count offset kind target addend l bytes

  c_sheet_keeps_count : (s : List ℕ) → let m = (run_sheet s l).1 in
      (number l ≡ open·in l → number m ≡ open·in m)
      × (open·in l ≤ number l → number m + open·in l ≡ number l + open·in m)
      × (number l ≤ open·in l → (number m ≤ open·in m) × (number l + open·in m ≤ number m + open·in l))
  c_sheet_keeps_count s = let k = counting.c_sheet_keeps_count s l bytes in (k.right, k.above, k.below)

  c_finish_counts : (ss : List Segment) (output finalized : List ℕ) → 52 ≤ length l.counts → 24 ≤ length finalized
      → let r = recording_in l in
      let a = finish l ss output finalized in
      let m = lent_of a.1.0 l.code (labels_of a) l.events l.uses l.refs l.constants l.asked (relocs_of a) in
      (standing r.buffer (counts_fit r) (within_limits r (length ss) (length output)) ≡ 0 → number l ≢ open·in l → a.0 ≡ 1)
      × (why_unfit r (length ss) (length output) ≡ 0 → number l - settled_by (view r) ≢ 0 → a.0 ≡ 15)
      × (why_unfit r (length ss) (length output) ≡ 0 → number l - settled_by (view r) ≡ 0 → a.0 ≢ 15)
      × (a.0 ≡ 0 → (number m ≡ 0) × (open·in m ≡ 0))
  c_finish_counts ss output finalized room record-room =
      let f = finishing.c_finish_counts l ss output finalized bytes room record-room in
      (f.wrong, f.remains, f.settled, f.left)
