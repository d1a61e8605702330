-- What finish hands out the writer of ELF entries takes: document 02, Request Two. It may refuse the architecture, a kind, a sum or the output (24, 25, 26),
-- never the record and the tables.
use mathlib.Core.Path.{◌≡◌, refl, sym, ap, ◌∙◌, subst}
use mathlib.Core.Logic.{◌≢◌, ⊎_elim}
use mathlib.Core.Bool.{true, ◌&&◌}
use mathlib.Core.List.{List}
use Prim.Native.Nat.{ℕ, zero, suc, ◌+◌, ◌-◌, ◌*◌, ◌/◌, ◌≤◌, ◌<◌}
use native.Mathlib.Omega.{arith}
use lib.ListN.{length, get_or}
use borrow.Author.Tests.{lt-ltb, le-ltb, le-leb, ne_eqb}
use Rattle.seqs.specs.Every.{every}
use Rattle.seqs.proofs.Booleans.{both_true}
use Rattle.seqs.proofs.Every.{all_of, every_at}
use Rattle.seqs.proofs.Overwrites.{length_over}
use Rattle.seqs.proofs.Picking.{pick_either, no_lt}
use Rattle.words.specs.Words.{word_at, bytes_of_all, over_words}
use Rattle.words.proofs.Entries.{word_read}
use Rattle.words.proofs.Laws.{length_set_word, word_at_other}
use Rattle.relax.specs.declared.Segment.{Segment}
use Rattle.buffer.specs.State.{none, label_target}
use Rattle.buffer.specs.Tables.{most_entries, label_size, reloc_words, reloc_size}
use Rattle.recording.specs.Calls.{Recording}
use Rattle.recording.specs.View as tables
use Rattle.recording.specs.View.{reloc_at, view}
use Rattle.recording.proofs.Views.{length_entries, get_d_entries}
use Rattle.fresh.specs.Pooled.{Pooled, pooled}
use Rattle.fresh.specs.Forms.{moves}
use Rattle.fresh.proofs.Tests.{split}
use Rattle.finish.specs.Refusals.{is_bound, jump_bound, reloc_bound, all_bound}
use Rattle.finish.specs.Finish as finishing
use Rattle.finish.specs.Finish.{Finished, Outcome, relocated}
use Rattle.elf.specs.Elf as elf
use Rattle.elf.proofs.Answers.{OfEntries, fit_of_entries}
use Rattle.wargnifla.specs.Boundary.{record_size, Lent, record_of, record_at, recording_in, finish, write_relas}
use Rattle.demands.specs.Boundary.{Answer, labels_of, relocs_of, record_in}
use Rattle.demands.proofs.Answers.{finish_answered}
use Rattle.demands.proofs.Boundary.{c_finish_calls}
use Rattle.demands.proofs.Discharged.{is_bound_lem}
use Rattle.demands.proofs.Offsets.{bound_left}

-- a table of relocations with the same length and targets
pub record SameTargets (relocs : List ℕ) (left : List ℕ) : Type 0 where
  pub size : length left ≡ length relocs
  pub target : (i : ℕ) → word_at left (i * reloc_words + 2) ≡ word_at relocs (i * reloc_words + 2)

-- mapped offsets leave the targets
relocated_targets : (at : ℕ → ℕ) (relocs : List ℕ) (n : ℕ) → SameTargets relocs (relocated at relocs n)
unfolding relocated
relocated_targets at relocs zero = record { size = refl; target = λ i. refl }
relocated_targets at relocs (suc n) =
    let before = relocated_targets at relocs n in
    record {
      size = length_set_word (relocated at relocs n) (n * reloc_words) _ ∙ before.size;
      target = λ i. word_at_other (relocated at relocs n) (n * reloc_words) _ (i * reloc_words + 2) (λ e. omega arith) ∙ before.target i;
    }

-- and so does each stage of finish, whatever it answers
module _ (relocs : List ℕ) (ss : List Segment) (output : List ℕ) where
  abbrev Same : Outcome × finishing.Left → Type 0
  Same x = SameTargets relocs x.1.1.0

  same : SameTargets relocs relocs
  same = record { size = refl; target = λ i. refl }

  relaxed_targets : (p : Pooled) (count : ℕ) (labels : List ℕ) → Same (finishing.relaxed p count labels relocs ss output)
  unfolding finishing.relaxed
  relaxed_targets p count labels = pick_either Same _ _ _ (pick_either Same _ _ _ (relocated_targets _ relocs count) same) same

  unrelaxed_targets : (p : Pooled) (labels : List ℕ) → Same (finishing.unrelaxed p labels relocs ss output)
  unfolding finishing.unrelaxed
  unrelaxed_targets p labels = pick_either Same _ _ _ same same

placed_targets : (p : Pooled) (r : Recording) (ss : List Segment) (output : List ℕ) → Same r.relocs ss output (finishing.placed_by p r ss output)
unfolding finishing.placed_by
placed_targets p r ss output =
    pick_either (Same r.relocs ss output) _ _ _
    (pick_either (Same r.relocs ss output) _ _ _ (relaxed_targets r.relocs ss output p _ _) (unrelaxed_targets r.relocs ss output p _))
    (same r.relocs ss output)

pub finish_targets : (r : Recording) (ss : List Segment) (output : List ℕ) → SameTargets r.relocs (finishing.finish r ss output).1.1.0
unfolding finishing.finish
finish_targets r ss output =
    let placed = placed_targets (pooled r.buffer.arch (view r)) r ss output in
    let P : Finished × finishing.Left → Type 0 = λ x. SameTargets r.relocs x.1.1.0 in
    pick_either P _ _ _ (pick_either P _ _ _ placed placed) (same r.relocs ss output)

-- Of a finish that answers 0: its tables are fit to be written from.
module _ (r : Recording) (ss : List Segment) (output : List ℕ) (e : (finishing.finish r ss output).0.refusal ≡ 0) where
  abbrev p : Pooled
  p = pooled r.buffer.arch (view r)

  abbrev labels : List ℕ
  labels = (finishing.finish r ss output).1.0

  abbrev relocs : List ℕ
  relocs = (finishing.finish r ss output).1.1.0

  labels_size : length labels ≡ length r.labels
  labels_size =
      let a = finish_answered r ss output e in
      split (moves p.events)
      (λ jump. ap length (a.jumped jump).mapped ∙ length_over _ 0 _ ∙ length_over r.labels 0 _)
      (λ stays. ap length (a.straight stays).unmoved ∙ length_over r.labels 0 _)

  -- 15: every label relocation names a label that is bound
  relocs_bound : every (reloc_bound p.labels) (view r).relocs ≡ true
  unfolding all_bound
  relocs_bound =
      let uses = every (λ (u : tables.Use). is_bound p.labels u.label) p.uses in
      let bound = every (reloc_bound p.labels) (view r).relocs in
      let rest = every (λ (f : tables.Ref). is_bound p.labels f.label) p.refs && every (jump_bound p.labels) p.events in
      (both_true bound rest (both_true uses (bound && rest) (finish_answered r ss output e).bound).1).0

  label_bound : (i : ℕ) → i < r.buffer.relocs → label_target ≤ (reloc_at r.relocs i).target → get_or p.labels ((reloc_at r.relocs i).target - label_target) none ≢ none
  unfolding reloc_bound
  label_bound i h label =
      let count = r.buffer.relocs in
      let z = reloc_at r.relocs 0 in
      let at = every_at (reloc_bound p.labels) (view r).relocs z relocs_bound i (omega (arith, length_entries (reloc_at r.relocs) count)) in
      let bound = subst (λ (x : tables.Relocation). reloc_bound p.labels x ≡ true) (get_d_entries (reloc_at r.relocs) count i z h) at in
      is_bound_lem p.labels ((reloc_at r.relocs i).target - label_target) (rw (le-ltb (reloc_at r.relocs i).target label_target label) at bound)

  target_bound_lem : (i : ℕ) → i < r.buffer.relocs → elf.target_bound labels r.buffer.labels (reloc_at relocs i).target ≡ true
  target_bound_lem i h =
      let t = (reloc_at r.relocs i).target in
      rw ((finish_targets r ss output).target i)
      (⊎_elim
      (λ symbol. rw (lt-ltb t label_target symbol.0))
      (λ label.
      let known : t - label_target < r.buffer.labels = omega (arith, label.0, label.1) in
      rw (
        le-ltb t label_target label.0,
        lt-ltb (t - label_target) r.buffer.labels known,
        ne_eqb (word_at labels (t - label_target)) none (bound_left r ss output e (t - label_target) known (label_bound i h label.0)),
      ))
      ((finish_answered r ss output e).fit.sound.relocs.entry i h).target)

  relocs_fit_lem : elf.relocs_fit (finishing.finish r ss output).0.code labels relocs ≡ true
  unfolding elf.relocs_fit elf.all_targets_bound
  relocs_fit_lem =
      let a = finish_answered r ss output e in
      let sound = a.fit.sound in
      rw (
        a.labels,
        a.relocs,
        le-leb r.buffer.labels (length labels / label_size) (omega (arith, labels_size, sound.labels.room)),
        le-leb r.buffer.relocs (length relocs / reloc_size) (omega (arith, (finish_targets r ss output).size, sound.relocs.room)),
      )
      (all_of (λ (i : ℕ). elf.target_bound labels r.buffer.labels (reloc_at relocs i).target) r.buffer.relocs target_bound_lem)

  within_limits_lem : elf.within_limits labels relocs ≡ true
  within_limits_lem =
      let a = finish_answered r ss output e in
      rw (
        le-leb (length labels / label_size) most_entries (rw labels_size a.fit.labels),
        le-leb (length relocs / reloc_size) most_entries (rw (finish_targets r ss output).size a.fit.relocs),
      )

-- What `wargnifla_finish` hands out where it answers 0, its record, labels and relocations, `wargnifla_write_relas` takes: it answers neither 1 nor 3,
-- whatever section symbol and output it is lent.
pub finished_relocations_are_taken : (l : Lent) (ss : List Segment) (output finalized : List ℕ) → (finish l ss output finalized).0 ≡ 0
    → (section : ℕ) (relas : List ℕ)
    → let a : Answer = finish l ss output finalized in OfEntries (write_relas (record_in a) (labels_of a) (relocs_of a) section relas).0
unfolding write_relas elf.relocs_fit
finished_relocations_are_taken l ss output finalized accepted section relas =
    let called = c_finish_calls l ss output finalized accepted in
    let r = recording_in l in
    let f = finishing.finish r ss output in
    let a = finish_answered r ss output called.zero in
    let made = over_words finalized (record_of f.0.code) in
    let counted : word_at made 4 ≡ f.0.code.labels =
    word_read finalized (record_of f.0.code) 4 (omega arith) called.room (omega (arith, a.labels, a.fit.sound.labels.room, a.fit.labels)) in
    let listed : word_at made 5 ≡ f.0.code.relocs =
    word_read finalized (record_of f.0.code) 5 (omega arith) called.room (omega (arith, a.relocs, a.fit.sound.relocs.room, a.fit.relocs)) in
    let fit : elf.relocs_fit (record_at made) f.1.0 f.1.1.0 ≡ true = rw (counted, listed) (relocs_fit_lem r ss output called.zero) in
    let long : record_size ≤ length made = omega (arith, length_over finalized 0 (bytes_of_all (record_of f.0.code)), called.room) in
    let crosses : write_relas made f.1.0 f.1.1.0 section relas ≡ elf.write_relas (record_at made) f.1.0 f.1.1.0 section relas =
    no_lt (length made) record_size _ _ long in
    subst (λ (x : Answer). OfEntries (write_relas (record_in x) (labels_of x) (relocs_of x) section relas).0) (sym called.is)
    (subst (λ (x : ℕ × List ℕ). OfEntries x.0) (sym crosses)
    (fit_of_entries (record_at made) f.1.0 f.1.1.0 section relas fit (within_limits_lem r ss output called.zero)))
