-- What a C program goes on to make of what it has lent (`Recorded` says what it makes from start on): sheets and direct calls, refused ones among them, and
-- tables that it replaces by longer ones.
use Rattle.std.specs.Prelude.{◌≡◌, List, ℕ}
use Rattle.recording.specs.Calls.{Word, Word64}
use Rattle.recording.specs.Sequences.{Grown}
use Rattle.wargnifla.specs.Boundary.{Lent, recording_in, run_sheet}
use Rattle.wargnifla.specs.Sequences.{after_bytes, after_align, after_constant, after_reloc}

pub data Later (l : Lent) : Lent → Type 0 where
  here : Later l l
  sheet : (s : List ℕ) (m : Lent) → Later l m → Later l (run_sheet s m).1
  bytes : (bs : List ℕ) (m : Lent) → Later l m → Later l (after_bytes bs m)
  alignment : (multiple most : Word) (m : Lent) → Later l m → Later l (after_align multiple most m)
  constant : (bs : List ℕ) (m : Lent) → Later l m → Later l (after_constant bs m)
  relocation : (offset kind target : Word) (addend : Word64) (m : Lent) → Later l m → Later l (after_reloc offset kind target addend m)
  grows : (m n : Lent) → Later l m → n.counts ≡ m.counts → Grown (recording_in m) (recording_in n) → Later l n
