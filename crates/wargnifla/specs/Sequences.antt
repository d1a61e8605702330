-- What a C program makes of a recording: it starts one, runs sheets and makes direct calls, refused ones among them, and between these it may replace a
-- table by a longer one.
use Rattle.std.specs.Prelude.{◌≡◌, List, ℕ, ◌≤◌, length}
use Rattle.recording.specs.Calls.{Word, Word64}
use Rattle.recording.specs.Sequences.{Grown}
use Rattle.wargnifla.specs.Boundary.{counts_size, Lent, lent_of, recording_in, start, put_bytes, align, add_constant, add_reloc, run_sheet}

-- what is lent, after each function
abbrev pub after_start : Word → Word → Lent → Lent
after_start arch symbols l =
    let a = start arch.value symbols.value l.counts in
    lent_of a.1 l.code l.labels l.events l.uses l.refs l.constants l.asked l.relocs

abbrev pub after_bytes : List ℕ → Lent → Lent
after_bytes bytes l =
    let a = put_bytes l.counts l.code bytes in
    lent_of a.1.0 a.1.1 l.labels l.events l.uses l.refs l.constants l.asked l.relocs

-- multiple, most
abbrev pub after_align : Word → Word → Lent → Lent
after_align m k l =
    let a = align l.counts l.code l.events m.value k.value in
    lent_of a.1.0 a.1.1.0 l.labels a.1.1.1 l.uses l.refs l.constants l.asked l.relocs

abbrev pub after_constant : List ℕ → Lent → Lent
after_constant bytes l =
    let a = add_constant l.counts l.constants bytes in
    lent_of a.1.0 l.code l.labels l.events l.uses l.refs a.1.1.0 l.asked l.relocs

-- offset, kind, target, addend
abbrev pub after_reloc : Word → Word → Word → Word64 → Lent → Lent
after_reloc o k t d l =
    let a = add_reloc l.counts l.labels l.relocs o.value k.value t.value d.value in
    lent_of a.1.0 l.code l.labels l.events l.uses l.refs l.constants l.asked a.1.1

-- what may be lent once a recording is started in bytes that hold counts
pub data Recorded : Lent → Type 0 where
  starts : (arch symbols : Word) (l : Lent) → counts_size ≤ length l.counts → Recorded (after_start arch symbols l)
  sheet : (s : List ℕ) (l : Lent) → Recorded l → Recorded (run_sheet s l).1
  bytes : (bs : List ℕ) (l : Lent) → Recorded l → Recorded (after_bytes bs l)
  alignment : (multiple most : Word) (l : Lent) → Recorded l → Recorded (after_align multiple most l)
  constant : (bs : List ℕ) (l : Lent) → Recorded l → Recorded (after_constant bs l)
  relocation : (offset kind target : Word) (addend : Word64) (l : Lent) → Recorded l → Recorded (after_reloc offset kind target addend l)
  grows : (l m : Lent) → Recorded l → m.counts ≡ l.counts → Grown (recording_in l) (recording_in m) → Recorded m
