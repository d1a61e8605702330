-- The whole finish: the pool's labels are bound in place, the stages run, and a refused finish takes the labels back.
use mathlib.Core.Path.{◌≡◌, refl, sym, ap, ◌∙◌}
use mathlib.Core.Logic.{◌≢◌, ⊎_elim}
use mathlib.Core.Bool.{Bool, true, false}
use mathlib.Core.List.{List}
use Prim.Native.Nat.{ℕ, zero, suc, ◌*◌, ◌≤◌, ◌<◌}
use native.Mathlib.Omega.{arith}
use lib.Dec.{eqb}
use lib.ListN.{length, get_or}
use Rattle.refusals.specs.Numbers as refusals
use Rattle.seqs.specs.Pick.{pick}
use Rattle.seqs.proofs.Numbers.{eq_or_ne}
use Rattle.seqs.proofs.Overwrites.{over_nil}
use Rattle.seqs.proofs.Picking.{yes_eq, no_eq}
use Rattle.words.specs.Words.{word_at, set_word, over_words}
use Rattle.relax.specs.declared.Segment.{Segment}
use Rattle.buffer.specs.declared.CodeBuffer.{CodeBuffer}
use Rattle.buffer.specs.Tables.{label_size}
use Rattle.recording.specs.Calls.{Recording}
use Rattle.recording.specs.View.{entries, view, reloc_at}
use Rattle.recording.proofs.Views.{word_set}
use Rattle.fresh.specs.Pooled.{Pooled, pooled, code_alignment}
use Rattle.fresh.specs.Forms.{moves}
use Rattle.pool.specs.steps.Pool.{label_at, pool_offset, pool_bound, pool_unbound, pool_alignment}
use Rattle.pool.proofs.Turns.{length_pool_bound, pool_unbound_pool_bound, set_word_same}
use Rattle.finish.specs.Refusals.{all_bound, why_not_laid, why_not_written, why_not_in_place, why_unfit}
use Rattle.finish.specs.Finish.{Finished, Outcome, Left, refused_with, relaxed, unrelaxed, finished_with, unfinished, placed_by, finish}
use Rattle.finish.specs.steps.Ready.{Ready, Placeable, pooled_of, placed_as, concluded}
use Rattle.finish.proofs.SoundRecording.{pool_distinct, offsets_small, pooled_is, alignment_is, ready}
use Rattle.finish.proofs.ScansAgree.{unbound_at}
use Rattle.finish.proofs.FitOrRefused.{limits, namers, asked_few, sound, Passed}
use Rattle.finish.proofs.RemainsOpen.{none_opened}
use Rattle.finish.proofs.MappedTables.{set_over_words, over_words_set}

-- every word written over itself
words_same : (t : List ℕ) (n : ℕ) → ((i : ℕ) → get_or t i 0 < 256) → over_words t (entries (word_at t) n) ≡ t
words_same t zero small = over_nil t 0
words_same t (suc n) small = sym (set_over_words (word_at t) t n) ∙ rw (words_same t n small) (set_word_same t n small)

-- the table with the pool's labels bound is that of the bound offsets
bound_words : (from : ℕ) (labels constants asked : List ℕ) (count n : ℕ) → ((i : ℕ) → get_or labels i 0 < 256) → count * label_size ≤ length labels
    → ((j : ℕ) → j < n → label_at constants asked j < count) → ((j : ℕ) → j < n → pool_offset from constants asked j < 4294967296)
    → over_words labels (entries (word_at (pool_bound from labels constants asked n)) count) ≡ pool_bound from labels constants asked n
unfolding pool_bound
bound_words from labels constants asked count zero small room known near = words_same labels count small
bound_words from labels constants asked count (suc n) small room known near =
    let before = pool_bound from labels constants asked n in
    let l = label_at constants asked n in
    let o = pool_offset from constants asked n in
    ap (over_words labels) (word_set before l o count (known n (omega arith)) (omega (arith, length_pool_bound from labels constants asked n)) (near n (omega arith)))
    ∙ over_words_set labels (word_at before) count l o (known n (omega arith))
    ∙ ap (λ (t : List ℕ). set_word t l o)
    (bound_words from labels constants asked count n small room (λ j h. known j (omega arith)) (λ j h. near j (omega arith)))

-- labels, relocations and output are left as they were
abbrev pub LeftAlone : List ℕ → List ℕ → List ℕ → Left → Type 0
LeftAlone labels relocs output l = (l.0 ≡ labels) × (l.1.0 ≡ relocs) × (l.1.1.1 ≡ output)

module _ (Q : Left → Type 0) where
  relaxed_picks : (s t : Bool) (x y z : Outcome × Left) → x.0.refusal ≡ 0 → Q y.1 → Q z.1 → (pick s (pick t x y) z).0.refusal ≢ 0 → Q (pick s (pick t x y) z).1
  unfolding pick
  relaxed_picks true true x y z a b c ne = absurd (ne a)
  relaxed_picks true false x y z a b c ne = b
  relaxed_picks false t x y z a b c ne = c

  unrelaxed_pick : (t : Bool) (x y : Outcome × Left) → x.0.refusal ≡ 0 → Q y.1 → (pick t x y).0.refusal ≢ 0 → Q (pick t x y).1
  unfolding pick
  unrelaxed_pick true x y a b ne = absurd (ne a)
  unrelaxed_pick false x y a b ne = b

  placed_picks : (s t : Bool) (x y z : Outcome × Left) → (x.0.refusal ≢ 0 → Q x.1) → (y.0.refusal ≢ 0 → Q y.1) → Q z.1
      → (pick s (pick t x y) z).0.refusal ≢ 0 → Q (pick s (pick t x y) z).1
  unfolding pick
  placed_picks true true x y z a b c ne = a ne
  placed_picks true false x y z a b c ne = b ne
  placed_picks false t x y z a b c ne = c

-- A stage that is refused leaves them so, with a jump and without one.
relaxed_refused : (p : Pooled) (count : ℕ) (labels relocs : List ℕ) (ss : List Segment) (output : List ℕ)
    → (relaxed p count labels relocs ss output).0.refusal ≢ 0 → LeftAlone labels relocs output (relaxed p count labels relocs ss output).1
unfolding relaxed
relaxed_refused p count labels relocs ss output ne =
    relaxed_picks (LeftAlone labels relocs output) (eqb (why_not_laid p (length ss)) 0) (eqb (why_not_written p (length output)) 0) _ _ _ refl (refl, refl, refl) (refl, refl, refl) ne

unrelaxed_refused : (p : Pooled) (labels relocs : List ℕ) (ss : List Segment) (output : List ℕ)
    → (unrelaxed p labels relocs ss output).0.refusal ≢ 0 → LeftAlone labels relocs output (unrelaxed p labels relocs ss output).1
unfolding unrelaxed
unrelaxed_refused p labels relocs ss output ne =
    unrelaxed_pick (LeftAlone labels relocs output) (eqb (why_not_in_place p (length output)) 0) _ _ refl (refl, refl, refl) ne

pub stages_refused : (bound : Bool) (p : Pooled) (count : ℕ) (labels relocs : List ℕ) (ss : List Segment) (output : List ℕ)
    → (pick bound (pick (moves p.events) (relaxed p count labels relocs ss output) (unrelaxed p labels relocs ss output)) (refused_with refusals.unbound_label, (labels, (relocs, (ss, output))))).0.refusal ≢ 0
    → LeftAlone labels relocs output (pick bound (pick (moves p.events) (relaxed p count labels relocs ss output) (unrelaxed p labels relocs ss output)) (refused_with refusals.unbound_label, (labels, (relocs, (ss, output))))).1
stages_refused bound p count labels relocs ss output ne =
    placed_picks (LeftAlone labels relocs output) bound (moves p.events) _ _ _ (relaxed_refused p count labels relocs ss output) (unrelaxed_refused p labels relocs ss output) (refl, refl, refl) ne

refused_labels : (p : Pooled) (b : CodeBuffer) (labels relocs : List ℕ) (ss : List Segment) (output : List ℕ)
    → (placed_as p b labels relocs ss output).0.refusal ≢ 0 → (placed_as p b labels relocs ss output).1.0 ≡ labels
unfolding placed_as
refused_labels p b labels relocs ss output ne =
    (stages_refused (all_bound p (entries (reloc_at relocs) b.relocs)) p b.relocs labels relocs ss output ne).0

module _ (r : Recording) (segments : ℕ) (output : List ℕ) (pass : Passed r segments (length output)) where
  abbrev bound : List ℕ
  bound = pool_bound r.buffer.code r.labels r.constants r.asked r.buffer.asked

  handed : Ready r.code bound r.events r.constants r.asked r.buffer.arch r.buffer.code r.buffer.labels r.buffer.events r.buffer.asked
  handed = ready r (sound r segments (length output) pass.stood pass.fit) (asked_few r segments (length output) pass.stood)

  -- what the stages are handed
  pub placeable : Placeable r.buffer r.code bound r.events r.uses r.refs r.constants r.asked r.relocs output segments
  placeable =
      let s = sound r segments (length output) pass.stood pass.fit in
      let k = limits r segments (length output) pass.stood in
      record {
        ready = handed;
        entered = record { room = handed.room; recorded = s.events; used = s.uses; referred = s.refs; relocated = s.relocs };
        namers = namers r segments (length output) pass.stood;
        settled = none_opened r segments (length output) pass;
        segments_limit = k.segments_limit;
        output_limit = k.output_limit;
      }

  abbrev p : Pooled
  p = pooled_of r.buffer r.code bound r.events r.uses r.refs r.constants r.asked

  module _ (small : (i : ℕ) → get_or r.labels i 0 < 256) (unfit : why_unfit r segments (length output) ≡ 0) (ss : List Segment) (count : length ss ≡ segments) where
    pooled_as : pooled r.buffer.arch (view r) ≡ p
    pooled_as = pooled_is r (sound r segments (length output) pass.stood pass.fit) (asked_few r segments (length output) pass.stood)

    alignment_of_lem : code_alignment (pooled r.buffer.arch (view r)).pool ≡ pool_alignment r.constants r.asked r.buffer.asked
    alignment_of_lem = alignment_is r (sound r segments (length output) pass.stood pass.fit) (asked_few r segments (length output) pass.stood)

    labels_are : over_words r.labels p.labels ≡ bound
    labels_are =
        bound_words r.buffer.code r.labels r.constants r.asked r.buffer.labels r.buffer.asked small
        (omega (arith, (sound r segments (length output) pass.stood pass.fit).labels.room)) handed.owned
        (offsets_small r (sound r segments (length output) pass.stood pass.fit) (asked_few r segments (length output) pass.stood))

    placed_is : placed_by (pooled r.buffer.arch (view r)) r ss output ≡ placed_as p r.buffer bound r.relocs ss output
    unfolding placed_by placed_as
    placed_is = rw (pooled_as, labels_are)

    module _ (placed : Outcome) (left : Left) (is : (placed, left) ≡ placed_as p r.buffer bound r.relocs ss output) where
      finish_done : (f : Finished) → placed.refusal ≡ 0 → f ≡ finished_with r.buffer (pool_alignment r.constants r.asked r.buffer.asked) placed
          → (f, left) ≡ finish r ss output
      unfolding finish
      finish_done f e ef =
          rw (ef, placed_is ∙ sym is, alignment_of_lem)
          (sym (yes_eq (why_unfit r (length ss) (length output)) 0 _ _ (rw count unfit) ∙ yes_eq placed.refusal 0 _ _ e))

      finish_refused : (f : Finished) (labels : List ℕ) → placed.refusal ≢ 0 → f ≡ unfinished r.buffer placed.refusal
          → labels ≡ pool_unbound left.0 r.constants r.asked r.buffer.asked → (f, (labels, left.1)) ≡ finish r ss output
      unfolding finish
      finish_refused f labels ne ef el =
          let kept : left.0 ≡ bound
          = ap (λ (x : Outcome × Left). x.1.0) is
          ∙ refused_labels p r.buffer bound r.relocs ss output (λ z. ne (ap (λ (x : Outcome × Left). x.0.refusal) is ∙ z)) in
          let s = sound r segments (length output) pass.stood pass.fit in
          let back : labels ≡ r.labels
          = el
          ∙ ap (λ (t : List ℕ). pool_unbound t r.constants r.asked r.buffer.asked) kept
          ∙ pool_unbound_pool_bound r.buffer.code r.labels r.constants r.asked r.buffer.asked
          (pool_distinct r s (asked_few r segments (length output) pass.stood)) small
          (unbound_at r.labels r.constants r.asked r.buffer.asked pass.free) in
          rw (ef, back, placed_is ∙ sym is)
          (sym (yes_eq (why_unfit r (length ss) (length output)) 0 _ _ (rw count unfit) ∙ no_eq placed.refusal 0 _ _ ne))

      -- concluded, it is what finish answers and leaves
      pub finish_concluded : (f : Finished) (labels : List ℕ) → (f, labels) ≡ concluded r.buffer r.constants r.asked placed left.0
          → (f, (labels, left.1)) ≡ finish r ss output
      unfolding concluded
      finish_concluded f labels e =
          ⊎_elim
          (λ (z : placed.refusal ≡ 0).
          let same = e ∙ yes_eq placed.refusal 0 _ _ z in
          rw (ap (λ (x : Finished × List ℕ). x.1) same) (finish_done f z (ap (λ (x : Finished × List ℕ). x.0) same)))
          (λ (ne : placed.refusal ≢ 0).
          let same = e ∙ no_eq placed.refusal 0 _ _ ne in
          finish_refused f labels ne (ap (λ (x : Finished × List ℕ). x.0) same) (ap (λ (x : Finished × List ℕ). x.1) same))
          (eq_or_ne placed.refusal 0)

-- a finish that is turned down before anything is touched
pub finish_unfit : (r : Recording) (ss : List Segment) (output : List ℕ) (why : ℕ) (f : Finished) → why ≡ why_unfit r (length ss) (length output) → why ≢ 0
    → f ≡ unfinished r.buffer why → (f, (r.labels, (r.relocs, (ss, output)))) ≡ finish r ss output
unfolding finish
finish_unfit r ss output why f e ne ef = rw (ef, ← e) (sym (no_eq why 0 _ _ ne))
