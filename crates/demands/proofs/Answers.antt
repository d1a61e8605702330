-- What a finish that answers 0 has found and left.
use mathlib.Core.Path.{◌≡◌, refl, sym, ap, ◌∙◌, subst}
use mathlib.Core.Logic.{◌≢◌}
use mathlib.Core.Bool.{Bool, true, false, not}
use mathlib.Core.List.{List, map}
use Prim.Native.Nat.{ℕ, ◌/◌, ◌≤◌}
use native.Mathlib.Omega.{arith}
use lib.Dec.{eqb, ltb}
use lib.ListN.{length, take}
use borrow.Author.Tests.{eqb-true, eqb-false, ltb-false, not-false}
use Rattle.refusals.specs.Numbers as refusals
use Rattle.seqs.specs.Over.{over}
use Rattle.seqs.specs.Pick.{pick}
use Rattle.seqs.proofs.Picking.{pick_yes, pick_no, passed, neither}
use Rattle.seqs.proofs.Overwrites.{take_over_front}
use Rattle.words.specs.Words.{over_words}
use Rattle.relax.specs.declared.Segment.{Segment}
use Rattle.buffer.specs.Tables.{most_entries, most_code, label_size, reloc_size}
use Rattle.recording.specs.Calls.{Recording}
use Rattle.recording.specs.Sound.{Sound}
use Rattle.recording.specs.View.{view}
use Rattle.fresh.specs.Pooled.{Pooled, pooled, code_alignment}
use Rattle.fresh.specs.Fresh.{moved}
use Rattle.fresh.specs.Rounds.{settled}
use Rattle.fresh.specs.Fill.{assembled, in_place}
use Rattle.fresh.proofs.Fill.{length_in_place}
use Rattle.fresh.specs.Forms.{moves}
use Rattle.finish.proofs.SoundRecording.{pooled_ends}
use Rattle.finish.proofs.FitOrRefused.{limits, sound, asked_few, passed_unfit}
use Rattle.seqs.specs.Every.{every}
use Rattle.finish.specs.Refusals.{all_bound, ref_clear, ref_reaches, why_not_laid, why_not_written, uses_refusal, why_not_in_place, why_unfit}
use Rattle.finish.specs.Finish.{Finished, Outcome, Left, relaxed, unrelaxed, finished_with, with_finished, placed_by, finish}
use Rattle.demands.specs.Demand2.{finished_code}

-- a recording that is fit: its entries are those that recordings write, and the pooled code, the output and the tables are small
pub record Fit (r : Recording) (ss : List Segment) (output : List ℕ) : Type 0 where
  pub sound : Sound r
  pub few : r.buffer.asked ≤ most_entries
  pub small : length (pooled r.buffer.arch (view r)).code ≤ most_code
  pub room : length output ≤ most_code
  pub segments : length ss ≤ most_entries
  pub labels : length r.labels / label_size ≤ most_entries
  pub relocs : length r.relocs / reloc_size ≤ most_entries

unfit_fit : (r : Recording) (ss : List Segment) (output : List ℕ) → why_unfit r (length ss) (length output) ≡ 0 → Fit r ss output
unfit_fit r ss output e =
    let p = passed_unfit r (length ss) (length output) e in
    let known = limits r (length ss) (length output) p.stood in
    record {
      sound = sound r (length ss) (length output) p.stood p.fit;
      few = asked_few r (length ss) (length output) p.stood;
      small = omega (arith, pooled_ends r (sound r (length ss) (length output) p.stood p.fit) (asked_few r (length ss) (length output) p.stood), p.short);
      room = known.output_limit;
      segments = known.segments_limit;
      labels = known.labels_limit;
      relocs = known.relocs_limit;
    }

-- a choice whose other side does not answer 0
pub chosen_zero : {A : Type 0} (f : A → ℕ) (t : Bool) (x y : A) → (t ≡ false → f y ≢ 0) → f (pick t x y) ≡ 0 → t ≡ true
unfolding pick
chosen_zero f true x y h e = refl
chosen_zero f false x y h e = absurd (h refl e)

-- With a jump: the table of segments has room, no ref is refused with 17 or 18; the code, which fits the output, its length, the mapped labels over
-- `labels`, and the number of rounds are left.
pub record Assembled (p : Pooled) (ss : List Segment) (labels output code table : List ℕ) (len layouts : ℕ) : Type 0 where
  pub room : length p.events ≤ length ss
  pub clear : every (ref_clear p) p.refs ≡ true
  pub reach : every (ref_reaches p (settled p).choice) p.refs ≡ true
  pub fits : length (assembled p (settled p).choice) ≤ length output
  pub reported : len ≡ length (assembled p (settled p).choice)
  pub is : code ≡ assembled p (settled p).choice
  pub mapped : table ≡ over_words labels (map (moved p (settled p).choice) p.labels)
  pub rounds : layouts ≡ (settled p).rounds

-- Without one: no use is refused; the code, which fits the output, its length, and `labels` are left.
pub record Kept (p : Pooled) (labels output code table : List ℕ) (len : ℕ) : Type 0 where
  pub none_refused : uses_refusal p p.uses ≡ 0
  pub fits : length p.code ≤ length output
  pub reported : len ≡ length p.code
  pub is : code ≡ in_place p
  pub unmoved : table ≡ labels

taken : (output code : List ℕ) (n : ℕ) → n ≡ length code → length code ≤ length output → take n (over output 0 code) ≡ code
taken output code n e h = ap (λ (m : ℕ). take m (over output 0 code)) e ∙ take_over_front output code h

-- the bytes that a stage leaves, as many as it says
abbrev code_of : Outcome × Left → List ℕ
code_of placed = take placed.0.len placed.1.1.1.1

relaxed_leaves : (p : Pooled) (count : ℕ) (labels relocs : List ℕ) (ss : List Segment) (output : List ℕ)
    → (relaxed p count labels relocs ss output).0.refusal ≡ 0
    → Assembled p ss labels output (code_of (relaxed p count labels relocs ss output)) (relaxed p count labels relocs ss output).1.0
    (relaxed p count labels relocs ss output).0.len (relaxed p count labels relocs ss output).0.layouts
unfolding relaxed why_not_laid why_not_written
relaxed_leaves p count labels relocs ss output e =
    let c = (settled p).choice in
    let early = why_not_laid p (length ss) in
    let late = why_not_written p (length output) in
    let first·zero : eqb early 0 ≡ true = chosen_zero (λ (x : Outcome × Left). x.0.refusal) (eqb early 0) _ _ (λ q. eqb-false early 0 q) e in
    let e2 = subst (λ (x : Outcome × Left). x.0.refusal ≡ 0) (pick_yes (eqb early 0) _ _ first·zero) e in
    let second·zero : eqb late 0 ≡ true = chosen_zero (λ (x : Outcome × Left). x.0.refusal) (eqb late 0) _ _ (λ q. eqb-false late 0 q) e2 in
    let out = passed (ltb (length ss) (length p.events)) refusals.too_few_segments (pick (not (every (ref_clear p) p.refs)) refusals.ref_overlaps 0) (λ z. omega arith) (eqb-true early 0 first·zero) in
    let far = passed (not (every (ref_reaches p c) p.refs)) refusals.ref_out_of_reach (pick (ltb (length output) (length (assembled p c))) refusals.output_too_small 0) (λ z. omega arith) (eqb-true late 0 second·zero) in
    let fits = ltb-false (length output) (length (assembled p c)) (passed (ltb (length output) (length (assembled p c))) refusals.output_too_small 0 (λ z. omega arith) far.1).0 in
    let leaves = pick_yes (eqb early 0) _ _ first·zero ∙ pick_yes (eqb late 0) _ _ second·zero in
    record {
      room = ltb-false (length ss) (length p.events) out.0;
      clear = not-false (every (ref_clear p) p.refs) (passed (not (every (ref_clear p) p.refs)) refusals.ref_overlaps 0 (λ z. omega arith) out.1).0;
      reach = not-false (every (ref_reaches p c) p.refs) far.0;
      fits = fits;
      reported = ap (λ (x : Outcome × Left). x.0.len) leaves;
      is = ap code_of leaves ∙ taken output (assembled p c) (length (assembled p c)) refl fits;
      mapped = ap (λ (x : Outcome × Left). x.1.0) leaves;
      rounds = ap (λ (x : Outcome × Left). x.0.layouts) leaves;
    }

unrelaxed_leaves : (p : Pooled) (labels relocs : List ℕ) (ss : List Segment) (output : List ℕ)
    → (unrelaxed p labels relocs ss output).0.refusal ≡ 0
    → Kept p labels output (code_of (unrelaxed p labels relocs ss output)) (unrelaxed p labels relocs ss output).1.0 (unrelaxed p labels relocs ss output).0.len
unfolding unrelaxed why_not_in_place
unrelaxed_leaves p labels relocs ss output e =
    let why = why_not_in_place p (length output) in
    let zero : eqb why 0 ≡ true = chosen_zero (λ (x : Outcome × Left). x.0.refusal) (eqb why 0) _ _ (λ q. eqb-false why 0 q) e in
    let both = neither (uses_refusal p p.uses) (pick (ltb (length output) (length p.code)) 23 0) (eqb-true why 0 zero) in
    let fits = ltb-false (length output) (length p.code) (passed (ltb (length output) (length p.code)) refusals.output_too_small 0 (λ z. omega arith) both.1).0 in
    record {
      none_refused = both.0;
      fits = fits;
      reported = ap (λ (x : Outcome × Left). x.0.len) (pick_yes (eqb why 0) _ _ zero);
      is =
          ap code_of (pick_yes (eqb why 0) _ _ zero)
          ∙ taken output (in_place p) (length p.code) (sym (length_in_place p)) (omega (arith, length_in_place p));
      unmoved = ap (λ (x : Outcome × Left). x.1.0) (pick_yes (eqb why 0) _ _ zero);
    }

-- What a finish that answers 0 has found, and the code that it leaves.
pub record Answered (r : Recording) (ss : List Segment) (output : List ℕ) : Type 0 where
  pub fit : Fit r ss output
  pub bound : all_bound (pooled r.buffer.arch (view r)) (view r).relocs ≡ true
  pub jumped : moves (pooled r.buffer.arch (view r)).events ≡ true
      → Assembled (pooled r.buffer.arch (view r)) ss (over_words r.labels (pooled r.buffer.arch (view r)).labels) output (finished_code r ss output)
      (finish r ss output).1.0 (finish r ss output).0.code.len (finish r ss output).0.code.layouts
  pub straight : moves (pooled r.buffer.arch (view r)).events ≡ false
      → Kept (pooled r.buffer.arch (view r)) (over_words r.labels (pooled r.buffer.arch (view r)).labels) output (finished_code r ss output)
      (finish r ss output).1.0 (finish r ss output).0.code.len
  pub counts : (finish r ss output).0.buffer ≡ with_finished r.buffer
  pub aligned : (finish r ss output).0.code.alignment ≡ code_alignment (pooled r.buffer.arch (view r)).pool
  pub labels : (finish r ss output).0.code.labels ≡ r.buffer.labels
  pub relocs : (finish r ss output).0.code.relocs ≡ r.buffer.relocs

pub finish_answered : (r : Recording) (ss : List Segment) (output : List ℕ) → (finish r ss output).0.refusal ≡ 0 → Answered r ss output
unfolding finish placed_by
finish_answered r ss output e =
    let b = r.buffer in
    let p = pooled b.arch (view r) in
    let why = why_unfit r (length ss) (length output) in
    let placed = placed_by p r ss output in
    let labels = over_words r.labels p.labels in
    let fit : eqb why 0 ≡ true = chosen_zero (λ (x : Finished × Left). x.0.refusal) (eqb why 0) _ _ (λ q. eqb-false why 0 q) e in
    let e2 = subst (λ (x : Finished × Left). x.0.refusal ≡ 0) (pick_yes (eqb why 0) _ _ fit) e in
    let done : eqb placed.0.refusal 0 ≡ true =
    chosen_zero (λ (x : Finished × Left). x.0.refusal) (eqb placed.0.refusal 0) _ _ (λ q. eqb-false placed.0.refusal 0 q) e2 in
    let bound : all_bound p (view r).relocs ≡ true =
    chosen_zero (λ (x : Outcome × Left). x.0.refusal) (all_bound p (view r).relocs) _ _ (λ q z. omega arith) (eqb-true placed.0.refusal 0 done) in
    let is : finish r ss output ≡ (finished_with b (code_alignment p.pool) placed.0, placed.1) = pick_yes (eqb why 0) _ _ fit ∙ pick_yes (eqb placed.0.refusal 0) _ _ done in
    let inner : placed ≡ pick (moves p.events) (relaxed p b.relocs labels r.relocs ss output) (unrelaxed p labels r.relocs ss output) =
    pick_yes (all_bound p (view r).relocs) _ _ bound in
    let zero : placed.0.refusal ≡ 0 = eqb-true placed.0.refusal 0 done in
    record {
      fit = unfit_fit r ss output (eqb-true why 0 fit);
      bound = bound;
      jumped = λ jump.
          let all = inner ∙ pick_yes (moves p.events) (relaxed p b.relocs labels r.relocs ss output) (unrelaxed p labels r.relocs ss output) jump in
          subst (λ (x : Finished × Left). Assembled p ss labels output (take x.0.code.len x.1.1.1.1) x.1.0 x.0.code.len x.0.code.layouts)
          (sym (is ∙ ap (λ (x : Outcome × Left). (finished_with b (code_alignment p.pool) x.0, x.1)) all))
          (relaxed_leaves p b.relocs labels r.relocs ss output (subst (λ (x : Outcome × Left). x.0.refusal ≡ 0) all zero));
      straight = λ none.
          let all = inner ∙ pick_no (moves p.events) (relaxed p b.relocs labels r.relocs ss output) (unrelaxed p labels r.relocs ss output) none in
          subst (λ (x : Finished × Left). Kept p labels output (take x.0.code.len x.1.1.1.1) x.1.0 x.0.code.len)
          (sym (is ∙ ap (λ (x : Outcome × Left). (finished_with b (code_alignment p.pool) x.0, x.1)) all))
          (unrelaxed_leaves p labels r.relocs ss output (subst (λ (x : Outcome × Left). x.0.refusal ≡ 0) all zero));
      counts = ap (λ (x : Finished × Left). x.0.buffer) is;
      aligned = ap (λ (x : Finished × Left). x.0.code.alignment) is;
      labels = ap (λ (x : Finished × Left). x.0.code.labels) is;
      relocs = ap (λ (x : Finished × Left). x.0.code.relocs) is;
    }
