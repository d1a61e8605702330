-- What `wargnifla_finish` makes of the number of open entries: 1 where it is wrong, 15 just where something remains, and none left.
use mathlib.Core.Path.{◌≡◌, refl, sym, ap, ◌∙◌, subst}
use mathlib.Core.Logic.{◌≢◌}
use mathlib.Core.Bool.{Bool, true, false, not, cond}
use mathlib.Core.List.{List, [], ◌∷◌}
use Prim.Native.Nat.{ℕ, ◌≤◌}
use native.Mathlib.Omega.{arith}
use lib.Dec.{eqb, ltb}
use lib.ListN.{length, get_or}
use borrow.Author.Tests.{eq-eqb, ne_eqb, eqb-true}
use Rattle.refusals.specs.Numbers as refusals
use Rattle.seqs.specs.Pick.{pick, first, or_else}
use Rattle.seqs.specs.Every.{every}
use Rattle.seqs.proofs.Picking.{pick_yes, pick_no, pick_either, no_lt, yes_ne}
use Rattle.fields.specs.declared.LabelUse.{LabelUse}
use Rattle.fields.specs.Kinds.{Decoded, Use, Unsupported, Unknown, info, decoded}
use Rattle.fields.specs.Reach.{can_reach, reach_refusal, reach_of}
use Rattle.relax.specs.declared.Segment.{Segment}
use Rattle.buffer.specs.State.{none}
use Rattle.buffer.specs.Tables.{most_code}
use Rattle.buffer.specs.Refusals.{standing}
use Rattle.recording.specs.Calls.{Recording}
use Rattle.recording.specs.View as tables
use Rattle.recording.specs.View.{view}
use Rattle.recording.specs.Open.{open_of}
use Rattle.recording.proofs.Words.{Words}
use Rattle.checks.specs.Lent.{counts_fit, within_limits}
use Rattle.checks.specs.Entries.{entries_fit}
use Rattle.fresh.specs.Pooled.{Pooled, pooled}
use Rattle.fresh.specs.Rounds.{settled}
use Rattle.fresh.specs.Fill.{assembled}
use Rattle.fresh.specs.Forms.{moves}
use Rattle.finish.specs.Refusals.{pool_bound_before, all_bound, ref_clear, ref_reaches, why_not_laid, why_not_written, use_refusal, uses_refusal, why_not_in_place, why_unfit}
use Rattle.finish.specs.Finish.{Finished, Outcome, Left, relaxed, unrelaxed, with_finished, placed_by}
use Rattle.finish.specs.Finish as finishing
use Rattle.finish.proofs.RemainsOpen.{remains_open}
use Rattle.wargnifla.specs.Boundary.{counts_size, record_size, Lent, recording_in, finish}
use Rattle.wargnifla.proofs.Counts.{recording_read}
use Rattle.demands.specs.Demand2.{Bytes}
use Rattle.demands.specs.Boundary.{Answer}
use Rattle.demands.specs.OpenCount.{left_by, FinishCounts}
use Rattle.demands.proofs.Answers.{finish_answered}
use Rattle.demands.proofs.NoneOpen.{finish_leaves_none_open, left}
use Rattle.demands.proofs.OpenCount.{lent_words}

abbrev Never15 : ℕ → Type 0
Never15 n = n ≢ refusals.unbound_label

-- No stage after 15 answers it.
or_never : (n m : ℕ) → Never15 n → Never15 m → Never15 (or_else n m)
or_never n m hn hm = pick_either Never15 (eqb n 0) m n hm hn

reach_never : (k : LabelUse) (offset label : ℕ) → Never15 (reach_refusal k offset label)
unfolding reach_refusal
reach_never k offset label = by (can_reach k offset label) (info k).branch (ltb label offset)
  where
    by : (reaches branch back : Bool)
        → Never15 (cond reaches 0 (cond branch refusals.branch_out_of_reach (cond back refusals.label_too_far_back refusals.label_too_far_ahead)))
    by true branch back = λ e. omega (arith, e)
    by false true back = λ e. omega (arith, e)
    by false false true = λ e. omega (arith, e)
    by false false false = λ e. omega (arith, e)

kind_never : (kind : Decoded) (offset label : ℕ) → Never15 (reach_of kind offset label)
kind_never (Use k) offset label = reach_never k offset label
kind_never Unsupported offset label = λ e. omega (arith, e)
kind_never Unknown offset label = λ e. omega (arith, e)

uses_never : (p : Pooled) (us : List tables.Use) → Never15 (uses_refusal p us)
unfolding uses_refusal use_refusal
uses_never p [] = λ e. omega (arith, e)
uses_never p (u ∷ us) =
    or_never (use_refusal p u) (uses_refusal p us)
    (pick_either Never15 _ refusals.use_past_end _ (λ e. omega (arith, e)) (kind_never (decoded u.code) u.offset (get_or p.labels u.label none)))
    (uses_never p us)

in_place_never : (p : Pooled) (output : ℕ) → Never15 (why_not_in_place p output)
unfolding why_not_in_place
in_place_never p output =
    or_never (uses_refusal p p.uses) _ (uses_never p p.uses)
    (pick_either Never15 (ltb output (length p.code)) refusals.output_too_small 0 (λ e. omega (arith, e)) (λ e. omega (arith, e)))

laid_never : (p : Pooled) (segments : ℕ) → Never15 (why_not_laid p segments)
unfolding why_not_laid
laid_never p segments =
    pick_either Never15 (ltb segments (length p.events)) refusals.too_few_segments _ (λ e. omega (arith, e))
    (pick_either Never15 (not (every (ref_clear p) p.refs)) refusals.ref_overlaps 0 (λ e. omega (arith, e)) (λ e. omega (arith, e)))

written_never : (p : Pooled) (output : ℕ) → Never15 (why_not_written p output)
unfolding why_not_written
written_never p output =
    pick_either Never15 (not (every (ref_reaches p (settled p).choice) p.refs)) refusals.ref_out_of_reach _ (λ e. omega (arith, e))
    (pick_either Never15 (ltb output (length (assembled p (settled p).choice))) refusals.output_too_small 0 (λ e. omega (arith, e)) (λ e. omega (arith, e)))

abbrev StageNever15 : Outcome × Left → Type 0
StageNever15 x = Never15 x.0.refusal

relaxed_never : (p : Pooled) (count : ℕ) (labels relocs : List ℕ) (ss : List Segment) (output : List ℕ) → StageNever15 (relaxed p count labels relocs ss output)
unfolding relaxed
relaxed_never p count labels relocs ss output =
    pick_either StageNever15 (eqb (why_not_laid p (length ss)) 0) _ _
    (pick_either StageNever15 (eqb (why_not_written p (length output)) 0) _ _ (λ e. omega (arith, e)) (written_never p (length output)))
    (laid_never p (length ss))

unrelaxed_never : (p : Pooled) (labels relocs : List ℕ) (ss : List Segment) (output : List ℕ) → StageNever15 (unrelaxed p labels relocs ss output)
unfolding unrelaxed
unrelaxed_never p labels relocs ss output =
    pick_either StageNever15 (eqb (why_not_in_place p (length output)) 0) _ _ (λ e. omega (arith, e)) (in_place_never p (length output))

-- of two outcomes that a number chooses between, the first for 0: each answers that number
chosen_number : {A : Type 0} (f : A → ℕ) (n : ℕ) (x y : A) → f x ≡ 0 → f y ≡ n → f (pick (eqb n 0) x y) ≡ n
unfolding pick
chosen_number f n x y fx fy = by (eqb n 0) refl
  where
    by : (t : Bool) → eqb n 0 ≡ t → f (pick t x y) ≡ n
    by true q = fx ∙ sym (eqb-true n 0 q)
    by false q = fy

module _ (r : Recording) (ss : List Segment) (output : List ℕ) where
  abbrev why : ℕ
  why = why_unfit r (length ss) (length output)

  abbrev placed : Outcome × Left
  placed = placed_by (pooled r.buffer.arch (view r)) r ss output

  abbrev refusal_of : Finished × Left → ℕ
  refusal_of a = a.0.refusal

  -- what finish answers: why the recording is unfit; once it is fit, what the stage does
  unfit_answer : why ≢ 0 → (finishing.finish r ss output).0.refusal ≡ why
  unfolding finishing.finish
  unfit_answer unfit = ap refusal_of (pick_no {A = Finished × Left} (eqb why 0) _ _ (ne_eqb why 0 unfit))

  fit_answer : why ≡ 0 → (finishing.finish r ss output).0.refusal ≡ placed.0.refusal
  unfolding finishing.finish
  fit_answer fit =
      ap refusal_of (pick_yes {A = Finished × Left} (eqb why 0) _ _ (eq-eqb why 0 fit)) ∙ chosen_number refusal_of placed.0.refusal _ _ refl refl

  -- a wrong number is one reason for 1, after what every call looks at first
  wrong_unfit : standing r.buffer (counts_fit r) (within_limits r (length ss) (length output)) ≡ 0 → r.buffer.unresolved ≢ open_of (view r)
      → why ≡ refusals.malformed
  unfolding why_unfit
  wrong_unfit stands wrong =
      let stood = standing r.buffer (counts_fit r) (within_limits r (length ss) (length output)) in
      let v = view r in
      let rest = first ((pool_bound_before v, refusals.pool_label_bound) ∷ (ltb most_code (length (pooled r.buffer.arch v).code), refusals.pool_too_large) ∷ []) in
      let numbered : ℕ = pick (not (eqb r.buffer.unresolved (open_of v))) refusals.malformed rest in
      pick_yes (eqb stood 0) (pick (not (entries_fit r)) refusals.malformed numbered) stood (eq-eqb stood 0 stands)
      ∙ pick_either (λ (n : ℕ). n ≡ refusals.malformed) (not (entries_fit r)) refusals.malformed numbered refl (yes_ne r.buffer.unresolved (open_of v) refusals.malformed rest wrong)

  -- whether every label is bound by the time of 15
  abbrev bound : Bool
  bound = all_bound (pooled r.buffer.arch (view r)) (view r).relocs

  unbound_stage : bound ≡ false → placed.0.refusal ≡ refusals.unbound_label
  unfolding placed_by
  unbound_stage free = ap (λ (x : Outcome × Left). x.0.refusal) (pick_no {A = Outcome × Left} bound _ _ free)

  bound_stage : bound ≡ true → Never15 placed.0.refusal
  unfolding placed_by
  bound_stage all =
      subst StageNever15 (sym (pick_yes {A = Outcome × Left} bound _ _ all))
      (pick_either StageNever15 (moves (pooled r.buffer.arch (view r)).events) _ _ (relaxed_never _ _ _ _ ss output) (unrelaxed_never _ _ _ ss output))

-- The number at `wargnifla_finish`, whatever is lent.
pub c_finish_counts : (l : Lent) (ss : List Segment) (output finalized : List ℕ) → Bytes l.counts → counts_size ≤ length l.counts
    → record_size ≤ length finalized → FinishCounts l ss output (finish l ss output finalized)
unfolding finish
c_finish_counts l ss output finalized small room record-room =
    let r = recording_in l in
    let f = finishing.finish r ss output in
    let is = no_lt {A = Answer} (length finalized) record_size _ _ record-room ∙ no_lt {A = Answer} (length l.counts) counts_size _ _ room in
    let answer : (finish l ss output finalized).0 ≡ f.0.refusal = ap (λ (a : Answer). a.0) is in
    record {
      wrong = λ stands differ.
          let unfit = wrong_unfit r ss output stands differ in
          answer ∙ unfit_answer r ss output (λ z. omega (arith, z, unfit)) ∙ unfit;
      remains = λ fit more.
          answer ∙ fit_answer r ss output fit
          ∙ unbound_stage r ss output (remains_open r (length ss) (length output) fit ∙ ne_eqb _ 0 more);
      settled = λ fit none e.
          bound_stage r ss output (remains_open r (length ss) (length output) fit ∙ eq-eqb _ 0 none) (sym (fit_answer r ss output fit) ∙ sym answer ∙ e);
      left = λ zero.
          let done = sym answer ∙ zero in
          let w = lent_words l small in
          let counts = (finish_answered r ss output done).counts in
          let words : Words f.0.buffer = rw counts (record { arch = w.arch; symbols = w.symbols; finished = omega arith; refusal = w.refusal; code = w.code; labels = w.labels; events = w.events; uses = w.uses; refs = w.refs; constants = w.constants; asked = w.asked; relocs = w.relocs; unresolved = omega arith }) in
          let read : recording_in (left_by l (finish l ss output finalized)) ≡ left r ss output
          = ap (λ (a : Answer). recording_in (left_by l a)) is ∙ recording_read l.counts (left r ss output) room words in
          let none = finish_leaves_none_open r ss output done in
          (ap (λ (s : Recording). s.buffer.unresolved) read ∙ none.0, ap (λ (s : Recording). open_of (view s)) read ∙ none.1);
    }
