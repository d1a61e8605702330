-- A finish that answers 0 leaves nothing open: the number that it hands back is the count over the tables that it leaves (document 02, Request Five).
use mathlib.Core.Path.{◌≡◌, refl, sym, ap, ◌∙◌}
use mathlib.Core.Logic.{◌≢◌, ⊎_elim}
use mathlib.Core.Bool.{Bool, true, false, not, ◌&&◌}
use mathlib.Core.List.{List}
use Prim.Native.Nat.{ℕ, ◌+◌, ◌-◌, ◌*◌, ◌≤◌, ◌<◌}
use native.Mathlib.Omega.{arith}
use borrow.Author.Tests.{eqb-true, eq-eqb, le-leb}
use lib.Dec.{leb}
use lib.ListN.{get_or, take}
use Rattle.seqs.specs.Pick.{pick}
use Rattle.seqs.specs.Counting.{one, count}
use Rattle.seqs.proofs.Booleans.{true_is_not_false}
use Rattle.seqs.proofs.Numbers.{lt_or_ge, eq_or_ne}
use Rattle.words.specs.Words.{word_at}
use Rattle.relax.specs.declared.Segment.{Segment}
use Rattle.naming.specs.steps.Open.{is_open_at}
use Rattle.buffer.specs.declared.CodeBuffer.{CodeBuffer}
use Rattle.buffer.specs.State.{none, label_target}
use Rattle.buffer.specs.Tables.{reloc_words}
use Rattle.recording.specs.Calls.{Recording}
use Rattle.recording.specs.View.{entries, reloc_at, view, see_labels}
use Rattle.recording.specs.Open.{target_names, naming, is_open, open_of}
use Rattle.recording.proofs.Naming.{naming_sum, open_at}
use Rattle.recording.proofs.Views.{get_d_entries, count_entries}
use Rattle.fresh.specs.Pooled.{Pooled, pooled}
use Rattle.pool.specs.steps.Pool.{pool_bound}
use Rattle.finish.specs.Finish.{with_finished, finish}
use Rattle.finish.proofs.ScansAgree.{none_open}
use Rattle.finish.proofs.SoundRecording.{pooled_is}
use Rattle.demands.proofs.Answers.{finish_answered}
use Rattle.demands.proofs.Offsets.{bound_left}
use Rattle.demands.proofs.Relocations.{finish_targets}

-- the recording that a finish leaves
abbrev pub left : Recording → List Segment → List ℕ → Recording
left r ss output =
    let f = finish r ss output in
    record { buffer = f.0.buffer; code = r.code; labels = f.1.0; events = r.events; uses = r.uses; refs = r.refs; constants = r.constants; asked = r.asked; relocs = f.1.1.0 }

-- a property that implies another holds of fewer
fewer : (f g : Bool) → (f ≡ true → g ≡ true) → one g ≡ one f + one (g && not f)
unfolding pick
fewer true true h = refl
fewer true false h = absurd (true_is_not_false (sym (h refl)))
fewer false true h = refl
fewer false false h = refl

module _ (r : Recording) (ss : List Segment) (output : List ℕ) (e : (finish r ss output).0.refusal ≡ 0) where
  abbrev p : Pooled
  p = pooled r.buffer.arch (view r)

  abbrev after : List ℕ
  after = entries (word_at (finish r ss output).1.0) r.buffer.labels

  -- the labels once the pool's are bound, as the tables have them
  abbrev bound : List ℕ
  bound = entries (word_at (pool_bound r.buffer.code r.labels r.constants r.asked r.buffer.asked)) r.buffer.labels

  -- 15 did not apply
  none_before : open_of (see_labels (view r) bound) ≡ 0
  none_before =
      let a = finish_answered r ss output e in
      let v = see_labels (view r) bound in
      eqb-true _ 0
      (sym (none_open v r.buffer.arch r.buffer.code (take r.buffer.code r.code) r.constants r.asked r.buffer.asked)
      ∙ (rw (pooled_is r a.fit.sound a.fit.few) at a.bound))

  -- a label that was bound by then is bound in the table that is left
  still_bound : (l : ℕ) → is_open after l ≡ true → is_open bound l ≡ true
  unfolding is_open_at
  still_bound l opens =
      let a = finish_answered r ss output e in
      let labels_are : p.labels ≡ bound = ap (λ (q : Pooled). q.labels) (pooled_is r a.fit.sound a.fit.few) in
      ⊎_elim
      (λ (known : l < r.buffer.labels).
      ⊎_elim
      (λ (free : get_or bound l none ≡ none). eq-eqb _ none free)
      (λ (taken : get_or bound l none ≢ none).
      absurd (bound_left r ss output e l known (λ z. taken (ap (λ (ls : List ℕ). get_or ls l none) (sym labels_are) ∙ z))
      (sym (get_d_entries (word_at (finish r ss output).1.0) r.buffer.labels l none known) ∙ eqb-true _ none opens)))
      (eq_or_ne (get_or bound l none) none))
      (λ (unknown : r.buffer.labels ≤ l). open_at (pool_bound r.buffer.code r.labels r.constants r.asked r.buffer.asked) r.buffer.labels l ∙ rw (le-leb r.buffer.labels l unknown))
      (lt_or_ge l r.buffer.labels)

  none_after : naming (is_open after) (view r) ≡ 0
  unfolding naming
  none_after =
      omega (
        arith,
        none_before,
        naming_sum (is_open bound) (is_open after) (λ (l : ℕ). is_open bound l && not (is_open after l)) (λ l. fewer (is_open after l) (is_open bound l) (still_bound l)) (view r),
      )

  -- relocations name what they did
  targets_same : (f : ℕ → Bool) → count (target_names f) (entries (reloc_at (finish r ss output).1.1.0) r.buffer.relocs) ≡ count (target_names f) (view r).relocs
  targets_same f =
      let names : List ℕ → ℕ → Bool = λ t i. leb label_target (word_at t (i * reloc_words + 2)) && f (word_at t (i * reloc_words + 2) - label_target) in
      count_entries (target_names f) (reloc_at (finish r ss output).1.1.0) (names r.relocs) r.buffer.relocs (λ i h. rw ((finish_targets r ss output).target i))
      ∙ sym (count_entries (target_names f) (reloc_at r.relocs) (names r.relocs) r.buffer.relocs (λ i h. refl))

  counts_are : (finish r ss output).0.buffer ≡ with_finished r.buffer
  counts_are = (finish_answered r ss output e).counts

  -- The number handed back is 0, and so is the count.
  pub finish_leaves_none_open : ((left r ss output).buffer.unresolved ≡ 0) × (open_of (view (left r ss output)) ≡ 0)
  unfolding naming
  finish_leaves_none_open = (ap (λ (b : CodeBuffer). b.unresolved) counts_are, rw (counts_are, targets_same (is_open after)) none_after)
