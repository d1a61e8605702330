-- The theorems that docs/PROOFS.md names, beyond the demands and the joins (Claims, JoinClaims), each with its statement written out: one that is deleted,
-- weakened or put under a premise is refused here.
use mathlib.Core.Path.{◌≡◌, refl}
use mathlib.Core.Logic.{◌≢◌, ◌⊎◌, ◌↔◌}
use mathlib.Core.Bool.{true, false, not, ◌||◌}
use mathlib.Core.List.{List, [], ◌∷◌, ◌++◌, map}
use Prim.Native.Nat.{ℕ, ◌+◌, ◌-◌, ◌*◌, ◌/◌, ◌%◌, ◌^◌, ◌≤◌, ◌<◌}
use lib.Bits.{bit_and}
use lib.Dec.{eqb}
use lib.ListN.{length, get_or, take}
use Rattle.words.specs.Words.{word_at, bytes_of, bytes_of_all, over_words}
use Rattle.encoder.specs.Nops.{nops}
use Rattle.encoder.specs.Intel.{AreNops}
use Rattle.encoder.specs.Padding.{padding_length, padding_within}
use Rattle.encoder.proofs.Reading as reading
use Rattle.encoder.proofs.Padding as padding
use Rattle.fields.specs.declared.LabelUse.{LabelUse}
use Rattle.fields.specs.declared.LabelUse.TheVariants.{X86JmpRel32, A64Branch26, A64AddAbsLo12}
use Rattle.fields.specs.Words64.{modulus, plus, sign_extend}
use Rattle.fields.specs.Bits.{bits, insert_bits}
use Rattle.fields.specs.Kinds.{patch_size}
use Rattle.fields.specs.Meaning.{meaning, demanded, load_multiple, Clear, in_field}
use Rattle.fields.specs.Reach.{can_reach, pages_reach}
use Rattle.fields.specs.Patch.{patched, patched_use}
use Rattle.fields.specs.Branches.{State, is_branch, taken, inverse, field_kind, skipping, open_b, short_branch}
use Rattle.fields.specs.Branching.{ShortReads, LongReads}
use Rattle.fields.proofs.Insertion as insertion
use Rattle.fields.proofs.Fields as fields
use Rattle.fields.proofs.Encoding as encoding
use Rattle.fields.proofs.Inverting as inverting
use Rattle.fields.proofs.Branching as branching
use Rattle.relax.specs.declared.Condition.{Condition}
use Rattle.relax.specs.declared.LayoutEvent.TheVariants.{Jump}
use Rattle.relax.specs.declared.RelaxableJump.{RelaxableJump}
use Rattle.relax.specs.declared.Segment.{Segment}
use Rattle.relax.specs.Events.{no_event}
use Rattle.buffer.specs.State.{none, label_target}
use Rattle.buffer.specs.Tables.{most_entries, reloc_size}
use Rattle.buffer.specs.Refusals.{is_alignment}
use Rattle.recording.specs.Calls.{Recording, Word, Call, align, after, after_all, answered}
use Rattle.recording.specs.Sound.{Sound}
use Rattle.recording.specs.View.{Relocation, reloc_at, view}
use Rattle.recording.specs.Open.{open_of}
use Rattle.recording.proofs.Alignments as alignments
use Rattle.recording.proofs.Laws as laws
use Rattle.recording.proofs.Open as counting
use Rattle.checks.specs.Entries.{entries_fit}
use Rattle.checks.proofs.Sound as checking
use Rattle.fresh.specs.Pooled.{Pooled}
use Rattle.fresh.specs.Forms.{Branch, branches, role_of, width}
use Rattle.fresh.specs.Fresh.{Choice, walk, starts, stands, writes, placed, target}
use Rattle.fresh.specs.Rounds.{all_short, jumps, Rounds, settled}
use Rattle.fresh.specs.Demand.{Fits, NoAlign, Includes}
use Rattle.fresh.specs.Order.{Lies, WellFormed}
use Rattle.fresh.specs.Walk.{spanned}
use Rattle.fresh.proofs.Rounds as rounds
use Rattle.fresh.proofs.Least as least
use Rattle.fresh.proofs.Rising as rising
use Rattle.fresh.proofs.Demand as reaching
use Rattle.fresh.proofs.Walk as walking
use Rattle.fresh.proofs.Cases as skipped
use Rattle.sheet.specs.Run.{run_sheet}
use Rattle.sheet.proofs.Sheets as sheets
use Rattle.finish.specs.declared.CodeBufferFinalized.{CodeBufferFinalized}
use Rattle.cases.specs.Cases.{Row, answer, table}
use Rattle.cases.proofs.Table as worked
use Rattle.elf.specs.Elf.{rela_size, no_type, elf_type_of, type_listed, words_of_rela, joined, rela_of, rela_at, words_of_entry, write_relas, read_relas}
use Rattle.elf.proofs.Listed as listed
use Rattle.elf.proofs.Addends as addends
use Rattle.elf.proofs.RoundTrip as round
use Rattle.join.specs.Pieces.{piece_at, cursor_at}
use Rattle.join.specs.Symbols.{symbol_at, defined_once}
use Rattle.join.proofs.Once as once
use Rattle.wargnifla.specs.Boundary as boundary
use Rattle.wargnifla.specs.Boundary.{Lent, recording_in}
use Rattle.wargnifla.specs.Sequences.{Recorded}
use Rattle.wargnifla.proofs.Sequences as sequences
use Rattle.demands.specs.Reading.{Reads}
use Rattle.demands.specs.Boundary.{Answer, labels_of, relocs_of, record_in}
use Rattle.demands.proofs.Example as example
use Rattle.demands.proofs.Read as reads
use Rattle.demands.proofs.Recorded as recorded
use Rattle.demands.proofs.Relocations as relocations

-- Padding.
nops_read : (n : ℕ) → AreNops (nops n)
nops_read = reading.nops_read

padding_aligns : (o m : ℕ) → 0 < m → (o + padding_length o m) % m ≡ 0
padding_aligns = padding.padding_aligns

padding_least : (o m k : ℕ) → 0 < m → (o + k) % m ≡ 0 → padding_length o m ≤ k
padding_least = padding.padding_least

padding_masked : (o k : ℕ) → o < 2 ^ 32 → k ≤ 32 → bit_and ((2 ^ 32 - o) % 2 ^ 32) (2 ^ k - 1) ≡ padding_length o (2 ^ k)
padding_masked = padding.padding_masked

padding_spends : (o m most : ℕ) → 0 < m
    → (((o + padding_within o m most) % m ≡ 0) ⊎ ((o + padding_within o m most ≡ o) × ((k : ℕ) → (o + k) % m ≡ 0 → most < k)))
    × (o + padding_within o m most ≤ o + most)
padding_spends o m most h = let s = padding.padding_spends o m most h in (s.ends, s.few)

recorded_spends : (r : Recording) (m most : Word) → answered (align m most) r ≡ 0
    → let end = (after (align m most) r).buffer.code in
    ((end % m.value ≡ 0) ⊎ ((end ≡ r.buffer.code) × ((k : ℕ) → (r.buffer.code + k) % m.value ≡ 0 → most.value < k)))
    × (end ≤ r.buffer.code + most.value)
recorded_spends r m most e = let s = recorded.recorded_spends r m most e in (s.ends, s.few)

alignments_are_powers : (n : ℕ)
    → is_alignment n
    ≡ (eqb n 1 || eqb n 2 || eqb n 4 || eqb n 8 || eqb n 16 || eqb n 32 || eqb n 64 || eqb n 128 || eqb n 256 || eqb n 512 || eqb n 1024 || eqb n 2048 || eqb n 4096)
alignments_are_powers = alignments.alignments_are_powers

-- Fields.
insert_read : (p n w v : ℕ) → insert_bits p n w v / 2 ^ p % 2 ^ n ≡ v % 2 ^ n
insert_read = insertion.insert_read

insert_below : (p n w v j k : ℕ) → k + j ≤ p → insert_bits p n w v / 2 ^ j % 2 ^ k ≡ w / 2 ^ j % 2 ^ k
insert_below = insertion.insert_below

insert_above : (p n w v j : ℕ) → p + n ≤ j → insert_bits p n w v / 2 ^ j ≡ w / 2 ^ j
insert_above = insertion.insert_above

field_means : (k : LabelUse) (base offset target : ℕ) (bytes : List ℕ) → length bytes ≡ patch_size k → ((i : ℕ) → get_or bytes i 0 < 256) → offset < modulus
    → target < modulus → base % load_multiple k ≡ 0 → Clear k (word_at bytes 0) → can_reach k offset target ≡ true
    → meaning k (plus base offset) (word_at (patched k offset target bytes) 0) ≡ demanded k (plus base target)
field_means k base offset target bytes size small = fields.field_means k base offset target bytes (record { size = size; small = small })

field_outside_stays : (k : LabelUse) (offset target i : ℕ) (bytes : List ℕ) → length bytes ≡ patch_size k → ((n : ℕ) → get_or bytes n 0 < 256)
    → i < 8 * patch_size k → in_field k i ≡ false → bits i i (word_at (patched k offset target bytes) 0) ≡ bits i i (word_at bytes 0)
field_outside_stays k offset target i bytes size small = fields.field_outside_stays k offset target i bytes (record { size = size; small = small })

use_adds_held : (base offset label : ℕ) (bytes : List ℕ) → length bytes ≡ 4 → ((i : ℕ) → get_or bytes i 0 < 256) → offset < 4294967296
    → meaning X86JmpRel32 (plus base offset) (word_at (patched_use X86JmpRel32 offset label bytes) 0) % 4294967296
    ≡ demanded X86JmpRel32 (plus base (plus label (sign_extend 32 (word_at bytes 0)))) % 4294967296
use_adds_held base offset label bytes size small = fields.use_adds_held base offset label bytes (record { size = size; small = small })

reach_is_encodable : (offset target : ℕ) → offset < modulus → target < modulus → (k : LabelUse) → k ≢ A64AddAbsLo12
    → can_reach k offset target ≡ true ↔ ((field : ℕ) × (meaning k offset field ≡ demanded k target))
reach_is_encodable = encoding.reach_is_encodable

inverse_inverts : (s : State) (code w : ℕ) → is_branch code w ≡ true → taken s (inverse w) ≡ not (taken s w)
inverse_inverts = inverting.inverse_inverts

short_reads : (base start label code w : ℕ) → is_branch code w ≡ true → w < 4294967296 → start + 4 < modulus → label < modulus → can_reach (field_kind code) start label ≡ true
    → ShortReads (plus base start) w (plus base label) (patched (field_kind code) start label (short_branch w))
short_reads = branching.short_reads

long_reads : (base start label code w : ℕ) → is_branch code w ≡ true → w < 4294967296 → start + 4 < modulus → label < modulus → can_reach A64Branch26 (start + 4) label ≡ true
    → LongReads (plus base start) w (plus base label) (bytes_of (skipping code w) ++ patched A64Branch26 (start + 4) label (bytes_of open_b))
long_reads = branching.long_reads

pages_always_reach : (offset label : ℕ) → offset < 4294967296 → label < 4294967296 → pages_reach offset label ≡ true
pages_always_reach = encoding.pages_always_reach

-- Recordings.
turned_down_unseen : (c : Call) (r : Recording) → answered c r ≢ 0 → view (after c r) ≡ view r
turned_down_unseen = laws.turned_down_unseen

open_kept : (c : Call) (r : Recording) → r.buffer.code < 4294967296
    → (after c r).buffer.unresolved ≡ r.buffer.unresolved + open_of (view (after c r)) - open_of (view r)
open_kept = counting.open_kept

sheet_makes_calls : (sheet : List ℕ) (r : Recording) → (cs : List Call) × ((run_sheet sheet r).1 ≡ after_all cs r)
sheet_makes_calls = sheets.sheet_makes_calls

sound_fits : (r : Recording) → Sound r → entries_fit r ≡ true
sound_fits = checking.sound_fits

c_recordings_are_sound : (l : Lent) → Recorded l → Sound (recording_in l)
c_recordings_are_sound = sequences.c_recordings_are_sound

c_recordings_keep_count : (l : Lent) → Recorded l → (recording_in l).buffer.unresolved ≡ open_of (view (recording_in l))
c_recordings_keep_count = sequences.c_recordings_keep_count

-- The rounds.
rounds_settle : (p : Pooled) → Rounds p (all_short p.events) (settled p).choice (settled p).rounds
rounds_settle = rounds.rounds_settle

rounds_unique : {p : Pooled} {c s s' : Choice} {n n' : ℕ} → Rounds p c s n → Rounds p c s' n' → (s ≡ s') × (n ≡ n')
rounds_unique = rounds.rounds_unique

rounds_bound : (p : Pooled) → (settled p).rounds ≤ jumps p.events + 1
rounds_bound = rounds.rounds_bound

rounds_least : (p : Pooled) → NoAlign p.events
    → ((i : ℕ) (b : Branch) → i < length p.events → role_of (get_or p.events i no_event) ≡ branches b → get_or p.labels b.label none ≢ none)
    → {s : Choice} {n : ℕ} → Rounds p (all_short p.events) s n → (d : Choice) → Fits p d → Includes s d
rounds_least = least.rounds_least

short_jumps_reach : (p : Pooled) (c : Choice) → Fits p c → (i : ℕ) (j : RelaxableJump) → i < length p.events → get_or p.events i no_event ≡ Jump j
    → get_or c i false ≡ false
    → (get_or (starts 0 (walk p) c) i 0 + 2 ≤ target p c j.label + 128) × (target p c j.label ≤ get_or (starts 0 (walk p) c) i 0 + 2 + 127)
short_jumps_reach = reaching.short_jumps_reach

placed_rises : (p : Pooled) (c d : Choice) → Includes c d → length (placed p c) ≤ length (placed p d)
placed_rises = rising.placed_rises

least_fails_with_a_skipped_alignment : (width (get_or (skipped.skipping).events 2 no_event) false
    (get_or (starts 0 (walk skipped.skipping) (settled skipped.skipping).choice) 2 0) ≡ 0)
    × Fits skipped.skipping (true ∷ false ∷ false ∷ []) × (Includes (settled skipped.skipping).choice (true ∷ false ∷ false ∷ []) → ⊥)
least_fails_with_a_skipped_alignment = skipped.least_fails_with_a_skipped_alignment

walk_stands : (p : Pooled) (c : Choice) → WellFormed p → (t : ℕ) → Lies p t
    → (passed : ℕ) × (0 + spanned (take passed (walk p)) ≡ t) × (stands t 0 0 (walk p) c ≡ 0 + length (writes p.arch 0 (take passed (walk p)) c))
walk_stands p c wf t h = let s = walking.walk_stands p c wf t h in (s.passed, s.here, s.wrote)

reads_once : (address : ℕ) (l : List ℕ) (c c' : Condition) (t t' : ℕ) → Reads address l c t → Reads address l c' t' → (c ≡ c') × (t ≡ t')
reads_once = reads.reads_once

-- Document 01's cases, and those of document 02: every row is answered as it says, and there are so many.
cases_hold : map answer table ≡ map (λ (r : Row). r.expected) table
cases_hold = worked.cases_hold

cases_counted : length table ≡ 26
unfolding table
cases_counted = refl

-- What a ref's field held makes no difference to what is written.
stale_field_ignored : (offset target : ℕ) (xs ys : List ℕ) → length xs ≡ 4 → length ys ≡ 4
    → patched X86JmpRel32 offset target xs ≡ patched X86JmpRel32 offset target ys
stale_field_ignored = example.stale_field_ignored

-- Relocations as ELF.
type_listed_lem : (arch kind : ℕ) → elf_type_of arch kind ≢ no_type → type_listed (elf_type_of arch kind) ≡ true
type_listed_lem = listed.type_listed_lem

written_reads_back : (code : CodeBufferFinalized) (labels relocs : List ℕ) (section : ℕ) (output : List ℕ) → ((i : ℕ) → get_or relocs i 0 < 256)
    → section < 4294967296 → (write_relas code labels relocs section output).0 ≡ 0 → (table : List ℕ) → code.relocs ≤ length table / reloc_size
    → length table / reloc_size ≤ most_entries
    → read_relas (take (code.relocs * rela_size) (write_relas code labels relocs section output).1) table
    ≡ (0, over_words table (joined (λ (i : ℕ). words_of_entry (rela_of code.arch labels section (reloc_at relocs i))) code.relocs))
written_reads_back = round.written_reads_back

read_again : (relas table : List ℕ) → ((i : ℕ) → get_or relas i 0 < 256) → (read_relas relas table).0 ≡ 0
    → bytes_of_all (joined (λ (i : ℕ). words_of_rela (rela_at relas i)) (length relas / rela_size)) ≡ relas
read_again = round.read_again

label_address : (arch : ℕ) (labels : List ℕ) (section : ℕ) (r : Relocation) (base : ℕ) → label_target ≤ r.target
    → ((rela_of arch labels section r).symbol ≡ section)
    × (plus base (rela_of arch labels section r).addend ≡ plus (plus base (word_at labels (r.target - label_target))) r.addend)
label_address = addends.label_address

-- neither 1 nor 3
finished_relocations_are_taken : (l : Lent) (ss : List Segment) (output finalized : List ℕ) → (boundary.finish l ss output finalized).0 ≡ 0
    → (section : ℕ) (relas : List ℕ)
    → let a : Answer = boundary.finish l ss output finalized in
    let n = (boundary.write_relas (record_in a) (labels_of a) (relocs_of a) section relas).0 in
    (n ≢ 1) × (n ≢ 3)
finished_relocations_are_taken l ss output finalized e section relas = relocations.finished_relocations_are_taken l ss output finalized e section relas

-- A symbol is defined twice just where the definition of 28 says so.
once_distinct : (pieces labels definitions : List ℕ) (n : ℕ) → defined_once pieces labels definitions n ≡ true
    → (k j k' j' : ℕ) → k < n → j < (piece_at pieces k).definitions → k' < n → j' < (piece_at pieces k').definitions
    → ((k < k') ⊎ ((k ≡ k') × (j < j'))) → symbol_at definitions (cursor_at pieces k) j ≢ symbol_at definitions (cursor_at pieces k') j'
once_distinct pieces labels definitions n e k j k' j' known listed known' listed' =
    once.once_distinct pieces labels definitions n e (record { piece = k; entry = j; known = known; listed = listed })
    (record { piece = k'; entry = j'; known = known'; listed = listed' })

not_once_twice : (pieces labels definitions : List ℕ) (n : ℕ) → defined_once pieces labels definitions n ≡ false
    → (k : ℕ) × (j : ℕ) × (k' : ℕ) × (j' : ℕ) × (k < n) × (j < (piece_at pieces k).definitions) × (k' < n) × (j' < (piece_at pieces k').definitions)
    × ((k < k') ⊎ ((k ≡ k') × (j < j'))) × (symbol_at definitions (cursor_at pieces k) j ≡ symbol_at definitions (cursor_at pieces k') j')
not_once_twice pieces labels definitions n e =
    let t = once.not_once_twice pieces labels definitions n e in
    let d = t.first in
    let s = t.second in
    (d.piece, d.entry, s.piece, s.entry, d.known, d.listed, s.known, s.listed, t.order, t.same)
