-- Recorded padding where a C program meets it: an alignment that `wargnifla_align` or a sheet recorded, whatever sheets, calls and growth follow, stands in
-- what `wargnifla_finish` hands out without a jump, byte by byte where no use and no constant covers it. On X86, X64 and AArch64.
use mathlib.Core.Path.{◌≡◌, refl, sym, ap, ◌∙◌, subst}
use mathlib.Core.Logic.{◌≢◌}
use mathlib.Core.Bool.{Bool, true, false}
use mathlib.Core.List.{List, [], ◌∷◌, ◌++◌}
use Prim.Native.Nat.{ℕ, suc}
use native.Mathlib.Omega.{arith}
use lib.Dec.{eqb, ltb}
use lib.ListN.{length}
use borrow.Author.Tests.{eqb-true, eqb-false}
use Rattle.seqs.specs.Pick.{pick}
use Rattle.seqs.proofs.Picking.{pick_yes, pick_no, no_lt}
use Rattle.words.specs.Words.{word_at}
use Rattle.relax.specs.declared.Segment.{Segment}
use Rattle.buffer.specs.Refusals.{standing}
use Rattle.recording.specs.Calls.{Recording, Word, Call, after, after_all, answered}
use Rattle.recording.specs.Calls as call
use Rattle.recording.specs.Sequences.{Leads}
use Rattle.recording.specs.Sequences as leads
use Rattle.recording.specs.Sound.{Sound}
use Rattle.recording.proofs.Recordings.{calls_sound}
use Rattle.recording.proofs.Words.{Words, call_words, calls_words}
use Rattle.checks.specs.Lent.{counts_fit, within_limits}
use Rattle.sheet_form.specs.Form.{is_whole, kinds_of, arguments_of, first_broken}
use Rattle.sheet.specs.Run as sheets
use Rattle.sheet.proofs.Sheets.{sheet_makes_calls}
use Rattle.fresh.specs.Forms.{moves}
use Rattle.wargnifla.specs.Boundary.{counts_size, Lent, recording_in, lent_with, align, run_sheet, finish}
use Rattle.wargnifla.specs.Sequences.{after_align, Recorded}
use Rattle.wargnifla.specs.Sequences as making
use Rattle.wargnifla.proofs.Counts.{recording_read}
use Rattle.wargnifla.proofs.Sequences.{Good, recorded_good, sheet_left, bytes_left, align_left, constant_left, reloc_left}
use Rattle.demands.specs.Later.{Later, here, sheet, bytes, alignment, constant, relocation, grows}
use Rattle.demands.specs.Demand2.{AlignPadded}
use Rattle.demands.specs.Boundary.{finished_code, pooled_in}
use Rattle.demands.proofs.Answers.{chosen_zero}
use Rattle.demands.proofs.Recorded.{recorded_padding}
use Rattle.demands.proofs.Boundary.{c_finish_calls, code_read}

-- what a C program goes on to make is what one makes from start on
later_recorded : (l f : Lent) → Recorded l → Later l f → Recorded f
later_recorded l f made here = made
later_recorded l f made (sheet s m before) = making.sheet s m (later_recorded l m made before)
later_recorded l f made (bytes bs m before) = making.bytes bs m (later_recorded l m made before)
later_recorded l f made (alignment multiple most m before) = making.alignment multiple most m (later_recorded l m made before)
later_recorded l f made (constant bs m before) = making.constant bs m (later_recorded l m made before)
later_recorded l f made (relocation o k t d m before) = making.relocation o k t d m (later_recorded l m made before)
later_recorded l f made (grows m n before same growth) = making.grows m n (later_recorded l m made before) same growth

calls_lead : (cs : List Call) (r s : Recording) → Leads r s → Leads r (after_all cs s)
calls_lead [] r s before = before
calls_lead (c ∷ cs) r s before = calls_lead cs r (after c s) (leads.calls c s before)

-- a call on what is lent leaves the recording after it
call_reads : (c : Call) (m n : Lent) → Good m → n ≡ lent_with m.counts (after c (recording_in m)) → recording_in n ≡ after c (recording_in m)
call_reads c m n g is = ap recording_in is ∙ recording_read m.counts (after c (recording_in m)) g.room (call_words c (recording_in m) g.words)

call_leads : (l : Lent) (c : Call) (m n : Lent) → Good m → n ≡ lent_with m.counts (after c (recording_in m)) → Leads (recording_in l) (recording_in m)
    → Leads (recording_in l) (recording_in n)
call_leads l c m n g is before = subst (Leads (recording_in l)) (sym (call_reads c m n g is)) (leads.calls c (recording_in m) before)

pub later_leads : (l f : Lent) → Recorded l → Later l f → Leads (recording_in l) (recording_in f)
later_leads l f made here = leads.here
later_leads l f made (sheet s m before) =
    let g = recorded_good m (later_recorded l m made before) in
    let cs = sheet_makes_calls s (recording_in m) in
    subst (Leads (recording_in l))
    (sym (ap recording_in (sheet_left s m g.room ∙ ap (lent_with m.counts) cs.1)
    ∙ recording_read m.counts (after_all cs.0 (recording_in m)) g.room (calls_words cs.0 (recording_in m) g.words)))
    (calls_lead cs.0 (recording_in l) (recording_in m) (later_leads l m made before))
later_leads l f made (bytes bs m before) =
    let g = recorded_good m (later_recorded l m made before) in
    call_leads l (call.bytes bs) m _ g (bytes_left bs m g.room) (later_leads l m made before)
later_leads l f made (alignment multiple most m before) =
    let g = recorded_good m (later_recorded l m made before) in
    call_leads l (call.align multiple most) m _ g (align_left multiple most m g.room) (later_leads l m made before)
later_leads l f made (constant bs m before) =
    let g = recorded_good m (later_recorded l m made before) in
    call_leads l (call.constant bs) m _ g (constant_left bs m g.room) (later_leads l m made before)
later_leads l f made (relocation o k t d m before) =
    let g = recorded_good m (later_recorded l m made before) in
    call_leads l (call.relocation o k t d) m _ g (reloc_left o k t d m g.room) (later_leads l m made before)
later_leads l f made (grows m n before same growth) = leads.grows (recording_in m) (recording_in n) (later_leads l m made before) growth

-- one recording leads to a third through a second
leads_on : (r s t : Recording) → Leads r s → Leads s t → Leads r t
leads_on r s t first leads.here = first
leads_on r s t first (leads.calls c u before) = leads.calls c u (leads_on r s u first before)
leads_on r s t first (leads.grows u v before growth) = leads.grows u v (leads_on r s u first before) growth

-- of any recording in which an alignment was recorded, and of what a C function lends in the end
padded_at_c : (r : Recording) → Sound r → (m most : Word) → answered (call.align m most) r ≡ 0 → (f : Lent) → Leads (after (call.align m most) r) (recording_in f)
    → (ss : List Segment) (output finalized : List ℕ) → (finish f ss output finalized).0 ≡ 0 → moves (pooled_in f).events ≡ false
    → AlignPadded r m.value most.value (pooled_in f) (finished_code (finish f ss output finalized))
padded_at_c r s m most e f later ss output finalized done none =
    let called = c_finish_calls f ss output finalized done in
    subst (AlignPadded r m.value most.value (pooled_in f)) (sym (code_read f ss output finalized called))
    (recorded_padding r s m most e (recording_in f) later ss output called.zero none)

-- `wargnifla_align` answers 0: the padding that it recorded.
pub c_recorded_padding : (l : Lent) → Recorded l → (m most : Word) → (align l.counts l.code l.events m.value most.value).0 ≡ 0
    → (f : Lent) → Later (after_align m most l) f
    → (ss : List Segment) (output finalized : List ℕ) → (finish f ss output finalized).0 ≡ 0 → moves (pooled_in f).events ≡ false
    → AlignPadded (recording_in l) m.value most.value (pooled_in f) (finished_code (finish f ss output finalized))
unfolding align
c_recorded_padding l made m most e f later ss output finalized done none =
    let g = recorded_good l made in
    let r = recording_in l in
    let answers : answered (call.align m most) r ≡ 0
    = sym (ap (λ (a : ℕ × (List ℕ × (List ℕ × List ℕ))). a.0) (no_lt {A = ℕ × (List ℕ × (List ℕ × List ℕ))} (length l.counts) counts_size _ _ g.room)) ∙ e in
    padded_at_c r g.sound m most answers f
    (subst (λ (s : Recording). Leads s (recording_in f)) (call_reads (call.align m most) l (after_align m most l) g (align_left m most l g.room))
    (later_leads (after_align m most l) f (making.alignment m most l made) later))
    ss output finalized done none

-- the second of two outcomes, where the first does not answer 0
chosen_second : {A : Type 0} (f : A → ℕ) (t : Bool) (x y : A) → f x ≢ 0 → f (pick t x y) ≡ 0 → t ≡ false
unfolding pick
chosen_second f true x y h e = absurd (h e)
chosen_second f false x y h e = refl

-- calls that are all accepted
record AllMade (before : List Call) (c : Call) (rest : List Call) (r end : Recording) : Type 0 where
  takes : answered c (after_all before r) ≡ 0
  is : end ≡ after_all rest (after c (after_all before r))

run_all : (cs : List Call) (i : ℕ) (r : Recording) → (sheets.run_calls cs i r).0.0 ≡ 0 → (sheets.run_calls cs i r).1 ≡ after_all cs r
unfolding sheets.run_calls
run_all [] i r e = refl
run_all (c ∷ cs) i r e =
    let zero : eqb (answered c r) 0 ≡ true = chosen_zero (λ (x : (ℕ × ℕ) × Recording). x.0.0) (eqb (answered c r) 0) _ _ (λ q. eqb-false (answered c r) 0 q) e in
    let is = pick_yes (eqb (answered c r) 0) (sheets.run_calls cs (suc i) (after c r)) ((answered c r, i), after c r) zero in
    ap (λ (x : (ℕ × ℕ) × Recording). x.1) is ∙ run_all cs (suc i) (after c r) (sym (ap (λ (x : (ℕ × ℕ) × Recording). x.0.0) is) ∙ e)

run_made : (before : List Call) (c : Call) (rest : List Call) (i : ℕ) (r : Recording) → (sheets.run_calls (before ++ (c ∷ rest)) i r).0.0 ≡ 0
    → AllMade before c rest r (sheets.run_calls (before ++ (c ∷ rest)) i r).1
unfolding sheets.run_calls
run_made [] c rest i r e =
    let zero : eqb (answered c r) 0 ≡ true = chosen_zero (λ (x : (ℕ × ℕ) × Recording). x.0.0) (eqb (answered c r) 0) _ _ (λ q. eqb-false (answered c r) 0 q) e in
    record { takes = eqb-true (answered c r) 0 zero; is = run_all (c ∷ rest) i r e }
run_made (b ∷ before) c rest i r e =
    let cs = before ++ (c ∷ rest) in
    let zero : eqb (answered b r) 0 ≡ true = chosen_zero (λ (x : (ℕ × ℕ) × Recording). x.0.0) (eqb (answered b r) 0) _ _ (λ q. eqb-false (answered b r) 0 q) e in
    let is = pick_yes (eqb (answered b r) 0) (sheets.run_calls cs (suc i) (after b r)) ((answered b r, i), after b r) zero in
    let all = run_made before c rest (suc i) (after b r) (sym (ap (λ (x : (ℕ × ℕ) × Recording). x.0.0) is) ∙ e) in
    record { takes = all.takes; is = ap (λ (x : (ℕ × ℕ) × Recording). x.1) is ∙ all.is }

-- the calls of a sheet
abbrev pub calls_in : List ℕ → List Call
calls_in s = sheets.calls_of (kinds_of s) (arguments_of s)

sheet_runs : (s : List ℕ) (r : Recording) → (sheets.run_sheet s r).0.0 ≡ 0 → sheets.run_sheet s r ≡ sheets.run_calls (calls_in s) 0 r
unfolding sheets.run_sheet
sheet_runs s r e =
    let Out = (ℕ × ℕ) × Recording in
    let f : (ℕ × ℕ) × Recording → ℕ = λ x. x.0.0 in
    let broken = first_broken (kinds_of s) (arguments_of s) in
    let why = standing r.buffer (counts_fit r) (within_limits r 0 0) in
    let ok : is_whole s ≡ true = chosen_zero f (is_whole s) _ _ (λ q z. omega arith) e in
    let first = pick_yes {A = (ℕ × ℕ) × Recording} (is_whole s) _ _ ok in
    let formed : ltb broken (word_at s 0) ≡ false = chosen_second f (ltb broken (word_at s 0)) _ _ (λ z. omega arith) (sym (ap f first) ∙ e) in
    let second = pick_no {A = (ℕ × ℕ) × Recording} (ltb broken (word_at s 0)) _ _ formed in
    let stands : eqb why 0 ≡ true = chosen_zero f (eqb why 0) _ _ (λ q. eqb-false why 0 q) (sym (ap f (first ∙ second)) ∙ e) in
    first ∙ second ∙ pick_yes {A = (ℕ × ℕ) × Recording} (eqb why 0) _ _ stands

-- `wargnifla_run_sheet` answers 0: the padding of each alignment among the sheet's calls.
pub c_recorded_padding_of_a_sheet : (l : Lent) → Recorded l → (s : List ℕ) → (run_sheet s l).0.0 ≡ 0
    → (before rest : List Call) (m most : Word) → calls_in s ≡ before ++ (call.align m most ∷ rest)
    → (f : Lent) → Later (run_sheet s l).1 f
    → (ss : List Segment) (output finalized : List ℕ) → (finish f ss output finalized).0 ≡ 0 → moves (pooled_in f).events ≡ false
    → AlignPadded (after_all before (recording_in l)) m.value most.value (pooled_in f) (finished_code (finish f ss output finalized))
unfolding run_sheet
c_recorded_padding_of_a_sheet l made s e before rest m most is f later ss output finalized done none =
    let g = recorded_good l made in
    let r = recording_in l in
    let c = call.align m most in
    let zero : (sheets.run_sheet s r).0.0 ≡ 0
    = sym (ap (λ (a : (ℕ × ℕ) × Lent). a.0.0) (no_lt {A = (ℕ × ℕ) × Lent} (length l.counts) counts_size _ _ g.room)) ∙ e in
    let runs : sheets.run_sheet s r ≡ sheets.run_calls (before ++ (c ∷ rest)) 0 r = sheet_runs s r zero ∙ ap (λ (cs : List Call). sheets.run_calls cs 0 r) is in
    let all = run_made before c rest 0 r (sym (ap (λ (x : (ℕ × ℕ) × Recording). x.0.0) runs) ∙ zero) in
    let end = after_all rest (after c (after_all before r)) in
    let ends : (sheets.run_sheet s r).1 ≡ end = ap (λ (x : (ℕ × ℕ) × Recording). x.1) runs ∙ all.is in
    let w : Words end.buffer = calls_words rest (after c (after_all before r)) (call_words c (after_all before r) (calls_words before r g.words)) in
    let left : recording_in (run_sheet s l).1 ≡ end = ap recording_in (sheet_left s l g.room ∙ ap (lent_with l.counts) ends) ∙ recording_read l.counts end g.room w in
    padded_at_c (after_all before r) (calls_sound before r g.sound) m most all.takes f
    (leads_on (after c (after_all before r)) end (recording_in f)
    (calls_lead rest (after c (after_all before r)) (after c (after_all before r)) leads.here)
    (subst (λ (t : Recording). Leads t (recording_in f)) left (later_leads (run_sheet s l).1 f (making.sheet s l made) later)))
    ss output finalized done none
