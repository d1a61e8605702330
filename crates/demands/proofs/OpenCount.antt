-- The number of open entries at the C functions, for whatever is lent to them: counts of any bytes, tables of any contents.
use mathlib.Core.Path.{◌≡◌, refl, sym, ap, ◌∙◌, subst}
use mathlib.Core.Logic.{⊎_elim}
use mathlib.Core.List.{List, [], ◌∷◌}
use Prim.Native.Nat.{ℕ, ◌+◌, ◌-◌, ◌≤◌, ◌<◌}
use native.Mathlib.Omega.{arith}
use lib.ListN.{length}
use Rattle.seqs.proofs.Picking.{yes_lt}
use Rattle.seqs.proofs.Numbers.{lt_or_ge}
use Rattle.words.specs.Words.{word_at}
use Rattle.words.proofs.Laws.{word_at_small}
use Rattle.recording.specs.Calls.{Recording, Word, Word64, Call, after, after_all}
use Rattle.recording.specs.Calls as call
use Rattle.recording.specs.View.{view}
use Rattle.recording.specs.Open.{open_of}
use Rattle.recording.proofs.Open.{open_kept}
use Rattle.recording.proofs.Words.{Words, call_words, calls_words}
use Rattle.sheet.proofs.Sheets.{sheet_makes_calls}
use Rattle.wargnifla.specs.Boundary.{counts_size, Lent, lent_of, recording_in, lent_with, put_bytes, align, add_constant, add_reloc, run_sheet}
use Rattle.wargnifla.specs.Sequences.{after_bytes, after_align, after_constant, after_reloc}
use Rattle.wargnifla.proofs.Counts.{recording_read}
use Rattle.wargnifla.proofs.Sequences.{sheet_left, bytes_left, align_left, constant_left, reloc_left}
use Rattle.demands.specs.Demand2.{Bytes}
use Rattle.demands.specs.OpenCount.{kept_in, open_in, CallKeeps, SheetKeeps}

-- counts that are lent as bytes are words
pub lent_words : (l : Lent) → Bytes l.counts → Words (recording_in l).buffer
lent_words l small =
    let word : (k : ℕ) → word_at l.counts k < 4294967296 = λ k. word_at_small l.counts k small in
    record {
      arch = word 0;
      symbols = word 1;
      finished = word 2;
      refusal = word 3;
      code = word 4;
      labels = word 5;
      events = word 6;
      uses = word 7;
      refs = word 8;
      constants = word 9;
      asked = word 10;
      relocs = word 11;
      unresolved = word 12;
    }

-- a call that has the counts whole leaves the recording after it, in the bytes that were lent
call_keeps : (c : Call) (l m : Lent) → Bytes l.counts → (counts_size ≤ length l.counts → m ≡ lent_with l.counts (after c (recording_in l)))
    → (length l.counts < counts_size → m ≡ l) → CallKeeps l m
call_keeps c l m small whole short =
    ⊎_elim
    (λ (h : length l.counts < counts_size). rw (short h) (omega arith))
    (λ (h : counts_size ≤ length l.counts).
    let r = recording_in l in
    let w = lent_words l small in
    let read : recording_in m ≡ after c r = ap recording_in (whole h) ∙ recording_read l.counts (after c r) h (call_words c r w) in
    ap (λ (s : Recording). s.buffer.unresolved) read ∙ open_kept c r w.code
    ∙ ap (λ (s : Recording). kept_in l + open_of (view s) - open_in l) (sym read))
    (lt_or_ge (length l.counts) counts_size)

-- The direct calls.
pub c_bytes_keep_count : (bs : List ℕ) (l : Lent) → Bytes l.counts → CallKeeps l (after_bytes bs l)
unfolding put_bytes
c_bytes_keep_count bs l small =
    call_keeps (call.bytes bs) l (after_bytes bs l) small (bytes_left bs l)
    (λ h. ap (λ (a : ℕ × (List ℕ × List ℕ)). lent_of a.1.0 a.1.1 l.labels l.events l.uses l.refs l.constants l.asked l.relocs)
    (yes_lt {A = ℕ × (List ℕ × List ℕ)} (length l.counts) counts_size _ _ h))

pub c_align_keeps_count : (multiple most : Word) (l : Lent) → Bytes l.counts → CallKeeps l (after_align multiple most l)
unfolding align
c_align_keeps_count multiple most l small =
    call_keeps (call.align multiple most) l (after_align multiple most l) small (align_left multiple most l)
    (λ h.
    ap
    (λ (a : ℕ × (List ℕ × (List ℕ × List ℕ))).
    lent_of a.1.0 a.1.1.0 l.labels a.1.1.1 l.uses l.refs l.constants l.asked l.relocs)
    (yes_lt {A = ℕ × (List ℕ × (List ℕ × List ℕ))} (length l.counts) counts_size _ _ h))

pub c_constant_keeps_count : (bs : List ℕ) (l : Lent) → Bytes l.counts → CallKeeps l (after_constant bs l)
unfolding add_constant
c_constant_keeps_count bs l small =
    call_keeps (call.constant bs) l (after_constant bs l) small (constant_left bs l)
    (λ h.
    ap (λ (a : ℕ × (List ℕ × (List ℕ × ℕ))). lent_of a.1.0 l.code l.labels l.events l.uses l.refs a.1.1.0 l.asked l.relocs)
    (yes_lt {A = ℕ × (List ℕ × (List ℕ × ℕ))} (length l.counts) counts_size _ _ h))

pub c_reloc_keeps_count : (offset kind target : Word) (addend : Word64) (l : Lent) → Bytes l.counts → CallKeeps l (after_reloc offset kind target addend l)
unfolding add_reloc
c_reloc_keeps_count o k t d l small =
    call_keeps (call.relocation o k t d) l (after_reloc o k t d l) small (reloc_left o k t d l)
    (λ h.
    ap (λ (a : ℕ × (List ℕ × List ℕ)). lent_of a.1.0 l.code l.labels l.events l.uses l.refs l.constants l.asked a.1.1)
    (yes_lt {A = ℕ × (List ℕ × List ℕ)} (length l.counts) counts_size _ _ h))

-- What call after call does to a number that is at least the count, and to one that is at most the count.
above_kept : (cs : List Call) (r : Recording) → Words r.buffer → open_of (view r) ≤ r.buffer.unresolved
    → (after_all cs r).buffer.unresolved + open_of (view r) ≡ r.buffer.unresolved + open_of (view (after_all cs r))
above_kept [] r w h = refl
above_kept (c ∷ cs) r w h =
    let step = open_kept c r w.code in
    omega (arith, h, step, above_kept cs (after c r) (call_words c r w) (omega (arith, h, step)))

below_kept : (cs : List Call) (r : Recording) → Words r.buffer → r.buffer.unresolved ≤ open_of (view r)
    → ((after_all cs r).buffer.unresolved ≤ open_of (view (after_all cs r)))
    × (r.buffer.unresolved + open_of (view (after_all cs r)) ≤ (after_all cs r).buffer.unresolved + open_of (view r))
below_kept [] r w h = (h, omega arith)
below_kept (c ∷ cs) r w h =
    let step = open_kept c r w.code in
    let rest = below_kept cs (after c r) (call_words c r w) (omega (arith, h, step)) in
    (rest.0, omega (arith, h, step, rest.1))

-- A sheet, refused or not.
pub c_sheet_keeps_count : (s : List ℕ) (l : Lent) → Bytes l.counts → SheetKeeps l (run_sheet s l).1
unfolding run_sheet
c_sheet_keeps_count s l small =
    ⊎_elim
    (λ (h : length l.counts < counts_size).
    subst (SheetKeeps l) (sym (ap (λ (a : (ℕ × ℕ) × Lent). a.1) (yes_lt {A = (ℕ × ℕ) × Lent} (length l.counts) counts_size _ _ h)))
    (record { right = λ e. e; above = λ e. refl; below = λ e. (e, omega arith) }))
    (λ (h : counts_size ≤ length l.counts).
    let r = recording_in l in
    let w = lent_words l small in
    let cs = sheet_makes_calls s r in
    let m = after_all cs.0 r in
    let read : recording_in (run_sheet s l).1 ≡ m
    = ap recording_in (sheet_left s l h ∙ ap (lent_with l.counts) cs.1) ∙ recording_read l.counts m h (calls_words cs.0 r w) in
    let kept = ap (λ (t : Recording). t.buffer.unresolved) read in
    let open' = ap (λ (t : Recording). open_of (view t)) read in
    record {
      right = λ e. omega (arith, e, kept, open', above_kept cs.0 r w (omega (arith, e)));
      above = λ e. omega (arith, kept, open', above_kept cs.0 r w e);
      below = λ e. let b = below_kept cs.0 r w e in (omega (arith, kept, open', b.0), omega (arith, kept, open', b.1));
    })
    (lt_or_ge (length l.counts) counts_size)
