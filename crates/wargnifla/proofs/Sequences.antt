-- Recordings that C programs make are sound, and keep the right number of open entries.
use mathlib.Core.Path.{◌≡◌, sym, ap, ◌∙◌, subst}
use mathlib.Core.List.{List}
use Prim.Native.Nat.{ℕ, ◌≤◌}
use native.Mathlib.Omega.{arith}
use lib.ListN.{length}
use Rattle.seqs.proofs.Picking.{no_lt}
use Rattle.seqs.proofs.Overwrites.{length_over}
use Rattle.words.specs.Words.{bytes_of_all, over_words}
use Rattle.buffer.specs.declared.CodeBuffer.{CodeBuffer}
use Rattle.recording.specs.Calls.{Recording, Word, Word64, Call, after, after_all, begun}
use Rattle.recording.specs.Calls as call
use Rattle.recording.specs.Sound.{Sound}
use Rattle.recording.specs.View.{view}
use Rattle.recording.specs.Open.{open_of}
use Rattle.recording.proofs.LongerTables.{keeps_growth}
use Rattle.recording.proofs.Recordings.{keeps_sound, calls_sound, begun_sound}
use Rattle.recording.proofs.Open.{Right, call_right, calls_right, grown_right, begun_right}
use Rattle.recording.proofs.Words.{Words, call_words, calls_words, start_words}
use Rattle.sheet.specs.Run as sheets
use Rattle.sheet.proofs.Sheets.{sheet_makes_calls}
use Rattle.wargnifla.specs.Boundary.{counts_size, counts_at, counts_of, Lent, lent_of, recording_in, lent_with, start, put_bytes, align, add_constant, add_reloc, run_sheet}
use Rattle.wargnifla.specs.Sequences.{after_start, after_bytes, after_align, after_constant, after_reloc, Recorded, starts, sheet, bytes, alignment, constant, relocation, grows}
use Rattle.wargnifla.proofs.Counts.{counts_read}

-- what holds of all that is lent: its counts have their bytes and are words, the recording is sound, and its number of open entries is right
pub record Good (l : Lent) : Type 0 where
  pub room : counts_size ≤ length l.counts
  pub words : Words (recording_in l).buffer
  pub sound : Sound (recording_in l)
  pub right : Right (recording_in l)

-- bytes with a recording in them hold that recording
with_recording : (counts : List ℕ) (r : Recording) → counts_size ≤ length counts → Words r.buffer → Sound r → Right r → Good (lent_with counts r)
with_recording counts r room w s right =
    let read : counts_at (over_words counts (counts_of r.buffer)) ≡ r.buffer = counts_read counts r.buffer room w in
    record {
      room = omega (arith, length_over counts 0 (bytes_of_all (counts_of r.buffer)));
      words = rw read w;
      sound = rw read s;
      right = subst (λ (b : CodeBuffer). Right (call.with_buffer r b)) (sym read) right;
    }

-- A call on what is lent leaves what is good.
called : (c : Call) (l : Lent) → Good l → Good (lent_with l.counts (after c (recording_in l)))
called c l g =
    with_recording l.counts (after c (recording_in l)) g.room (call_words c (recording_in l) g.words) (keeps_sound c (recording_in l) g.sound)
    (call_right c (recording_in l) g.words.code g.right)

-- What each function leaves where counts are lent whole is the recording after the call.
abbrev begun_in : Word → Word → Lent → Recording
begun_in arch symbols m =
    begun arch.value symbols.value m.code m.labels m.events m.uses m.refs m.constants m.asked m.relocs

pub start_left : (arch symbols : Word) (m : Lent) → counts_size ≤ length m.counts → after_start arch symbols m ≡ lent_with m.counts (begun_in arch symbols m)
unfolding start
start_left arch symbols m room =
    ap (λ (a : ℕ × List ℕ). lent_of a.1 m.code m.labels m.events m.uses m.refs m.constants m.asked m.relocs)
    (no_lt {A = ℕ × List ℕ} (length m.counts) counts_size _ _ room)

pub sheet_left : (s : List ℕ) (m : Lent) → counts_size ≤ length m.counts → (run_sheet s m).1 ≡ lent_with m.counts (sheets.run_sheet s (recording_in m)).1
unfolding run_sheet
sheet_left s m room = ap (λ (a : (ℕ × ℕ) × Lent). a.1) (no_lt {A = (ℕ × ℕ) × Lent} (length m.counts) counts_size _ _ room)

pub bytes_left : (bs : List ℕ) (m : Lent) → counts_size ≤ length m.counts → after_bytes bs m ≡ lent_with m.counts (after (call.bytes bs) (recording_in m))
unfolding put_bytes
bytes_left bs m room =
    ap (λ (a : ℕ × (List ℕ × List ℕ)). lent_of a.1.0 a.1.1 m.labels m.events m.uses m.refs m.constants m.asked m.relocs)
    (no_lt {A = ℕ × (List ℕ × List ℕ)} (length m.counts) counts_size _ _ room)

pub align_left : (multiple most : Word) (m : Lent) → counts_size ≤ length m.counts
    → after_align multiple most m ≡ lent_with m.counts (after (call.align multiple most) (recording_in m))
unfolding align
align_left multiple most m room =
    ap
    (λ (a : ℕ × (List ℕ × (List ℕ × List ℕ))).
    lent_of a.1.0 a.1.1.0 m.labels a.1.1.1 m.uses m.refs m.constants m.asked m.relocs)
    (no_lt {A = ℕ × (List ℕ × (List ℕ × List ℕ))} (length m.counts) counts_size _ _ room)

pub constant_left : (bs : List ℕ) (m : Lent) → counts_size ≤ length m.counts
    → after_constant bs m ≡ lent_with m.counts (after (call.constant bs) (recording_in m))
unfolding add_constant
constant_left bs m room =
    ap (λ (a : ℕ × (List ℕ × (List ℕ × ℕ))). lent_of a.1.0 m.code m.labels m.events m.uses m.refs a.1.1.0 m.asked m.relocs)
    (no_lt {A = ℕ × (List ℕ × (List ℕ × ℕ))} (length m.counts) counts_size _ _ room)

pub reloc_left : (o k t : Word) (d : Word64) (m : Lent) → counts_size ≤ length m.counts
    → after_reloc o k t d m ≡ lent_with m.counts (after (call.relocation o k t d) (recording_in m))
unfolding add_reloc
reloc_left o k t d m room =
    ap (λ (a : ℕ × (List ℕ × List ℕ)). lent_of a.1.0 m.code m.labels m.events m.uses m.refs m.constants m.asked a.1.1)
    (no_lt {A = ℕ × (List ℕ × List ℕ)} (length m.counts) counts_size _ _ room)

-- Everything that a C program makes is good.
pub recorded_good : (l : Lent) → Recorded l → Good l
recorded_good l (starts arch symbols m room) =
    subst Good (sym (start_left arch symbols m room))
    (with_recording m.counts (begun_in arch symbols m) room (start_words arch.small symbols.small)
    (begun_sound m.code m.labels m.events m.uses m.refs m.constants m.asked m.relocs arch.value symbols.value)
    (begun_right arch.value symbols.value m.code m.labels m.events m.uses m.refs m.constants m.asked m.relocs))
recorded_good l (sheet s m made) =
    let g = recorded_good m made in
    let calls = sheet_makes_calls s (recording_in m) in
    subst Good (sym (sheet_left s m g.room ∙ ap (lent_with m.counts) calls.1))
    (with_recording m.counts (after_all calls.0 (recording_in m)) g.room (calls_words calls.0 (recording_in m) g.words)
    (calls_sound calls.0 (recording_in m) g.sound) (calls_right calls.0 (recording_in m) g.words g.right))
recorded_good l (bytes bs m made) = let g = recorded_good m made in subst Good (sym (bytes_left bs m g.room)) (called (call.bytes bs) m g)
recorded_good l (alignment multiple most m made) =
    let g = recorded_good m made in subst Good (sym (align_left multiple most m g.room)) (called (call.align multiple most) m g)
recorded_good l (constant bs m made) = let g = recorded_good m made in subst Good (sym (constant_left bs m g.room)) (called (call.constant bs) m g)
recorded_good l (relocation o k t d m made) =
    let g = recorded_good m made in subst Good (sym (reloc_left o k t d m g.room)) (called (call.relocation o k t d) m g)
recorded_good l (grows m n made same growth) =
    let g = recorded_good m made in
    record {
      room = rw same g.room;
      words = rw same g.words;
      sound = keeps_growth (recording_in m) (recording_in n) growth g.sound;
      right = grown_right (recording_in m) (recording_in n) growth g.right;
    }

-- From start on, whatever sheets and calls follow, refused ones too, and whenever tables grow between them, every entry is one that recordings write:
-- finish never answers 1 for an entry.
pub c_recordings_are_sound : (l : Lent) → Recorded l → Sound (recording_in l)
c_recordings_are_sound l made = (recorded_good l made).sound

-- and the number of open entries is the count over the tables: finish never answers 1 for it.
pub c_recordings_keep_count : (l : Lent) → Recorded l → (recording_in l).buffer.unresolved ≡ open_of (view (recording_in l))
c_recordings_keep_count l made = (recorded_good l made).right
