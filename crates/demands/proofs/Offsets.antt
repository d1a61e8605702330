-- The labels' offsets in the table that a finish which answers 0 leaves.
use mathlib.Core.Path.{◌≡◌, refl, sym, ap, ◌∙◌, subst}
use mathlib.Core.Logic.{◌≢◌, ⊎_elim}
use mathlib.Core.Bool.{true, false}
use mathlib.Core.List.{List, map}
use Prim.Native.Nat.{ℕ, ◌*◌, ◌≤◌, ◌<◌}
use native.Mathlib.Omega.{arith}
use lib.ListN.{length, get_or, get_or-map}
use Rattle.seqs.proofs.Numbers.{eq_or_ne}
use Rattle.seqs.proofs.Overwrites.{length_over}
use Rattle.words.specs.Words.{word_at, bytes_of_all, over_words}
use Rattle.relax.specs.declared.Segment.{Segment}
use Rattle.buffer.specs.State.{none}
use Rattle.recording.specs.Calls.{Recording}
use Rattle.recording.specs.View.{entries, view}
use Rattle.recording.proofs.Views.{entries_same, get_d_entries}
use Rattle.fresh.specs.Pooled.{Pooled, pooled}
use Rattle.fresh.specs.Fresh.{Choice, moved, target}
use Rattle.fresh.specs.Rounds.{settled}
use Rattle.fresh.specs.Forms.{moves}
use Rattle.fresh.proofs.Tests.{split}
use Rattle.fresh.proofs.Within.{moved_le}
use Rattle.finish.specs.Finish.{finish}
use Rattle.finish.proofs.MappedTables.{word_over, map_entries}
use Rattle.demands.proofs.Relaxing.{Fitting}
use Rattle.demands.proofs.Answers.{finish_answered}
use Rattle.demands.proofs.Discharged.{keeps, label_word, labelled, fitting}

-- words written over a table are read from it
words_read : (f : ℕ → ℕ) (t : List ℕ) (n : ℕ) → n * 4 ≤ length t → ((i : ℕ) → i < n → f i < 4294967296)
    → entries (word_at (over_words t (entries f n))) n ≡ entries f n
words_read f t n room small = entries_same (word_at (over_words t (entries f n))) f n (λ i h. word_over f t n i h room (small i h))

-- where labels go is a word
pub moved_none : (p : Pooled) (c : Choice) → moved p c none ≡ none
unfolding moved
moved_none p c = refl

target_bound_lem : (p : Pooled) (c : Choice) → Fitting p c → (l : ℕ) → get_or p.labels l none ≢ none → target p c l < none
target_bound_lem p c fitting l bound =
    let lies = fitting.formed.landed l bound in
    omega (arith, fitting.small, moved_le p c (get_or p.labels l none) (omega (arith, lies.0, fitting.recorded)))

target_small : (p : Pooled) (c : Choice) → Fitting p c → (l : ℕ) → target p c l < 4294967296
target_small p c fitting l =
    ⊎_elim
    (λ (e : get_or p.labels l none ≡ none). omega (arith, ap (moved p c) e ∙ moved_none p c))
    (λ (bound : get_or p.labels l none ≢ none). omega (arith, target_bound_lem p c fitting l bound))
    (eq_or_ne (get_or p.labels l none) none)

module _ (r : Recording) (ss : List Segment) (output : List ℕ) (e : (finish r ss output).0.refusal ≡ 0) where
  abbrev p : Pooled
  p = pooled r.buffer.arch (view r)

  abbrev left : List ℕ
  left = entries (word_at (finish r ss output).1.0) r.buffer.labels

  -- With a jump they are where the settled choice moves them.
  pub offsets_moved : moves p.events ≡ true → left ≡ map (moved p (settled p).choice) p.labels
  offsets_moved jump =
      let count = r.buffer.labels in
      let c = (settled p).choice in
      let a = finish_answered r ss output e in
      let sound = a.fit.sound in
      let few = a.fit.few in
      let done = a.jumped jump in
      let fits = fitting r sound few (keeps r sound few jump) a.fit a.bound done in
      let at = labelled r sound few in
      let f : ℕ → ℕ = λ (i : ℕ). moved p c (at.0 i) in
      let all : map (moved p c) p.labels ≡ entries f count = ap (map (moved p c)) at.1 ∙ map_entries (moved p c) at.0 count in
      let table : List ℕ = over_words r.labels p.labels in
      let small : (i : ℕ) → i < count → f i < 4294967296 =
      λ i h. subst (λ (x : ℕ). moved p c x < 4294967296) (ap (λ (l : List ℕ). get_or l i none) at.1 ∙ get_d_entries at.0 count i none h) (target_small p c fits i) in
      ap (λ (t : List ℕ). entries (word_at t) count) (done.mapped ∙ ap (over_words table) all)
      ∙ words_read f table count (omega (arith, sound.labels.room, length_over r.labels 0 (bytes_of_all p.labels))) small
      ∙ sym all

  -- Without one they are as recorded, and those of the pool where it was laid.
  pub offsets_kept : moves p.events ≡ false → left ≡ p.labels
  offsets_kept none·moves =
      let count = r.buffer.labels in
      let a = finish_answered r ss output e in
      let sound = a.fit.sound in
      let few = a.fit.few in
      let done = a.straight none·moves in
      let at = labelled r sound few in
      let small : (i : ℕ) → i < count → at.0 i < 4294967296 =
      λ i h. subst (λ (x : ℕ). x < 4294967296) (ap (λ (l : List ℕ). get_or l i none) at.1 ∙ get_d_entries at.0 count i none h) (label_word r sound few i) in
      ap (λ (t : List ℕ). entries (word_at t) count) (done.unmoved ∙ ap (over_words r.labels) at.1)
      ∙ words_read at.0 r.labels count (omega (arith, sound.labels.room)) small
      ∙ sym at.1

  -- A label that was bound, by a call or by the pool, has an offset.
  pub bound_left : (l : ℕ) → l < r.buffer.labels → get_or p.labels l none ≢ none → word_at (finish r ss output).1.0 l ≢ none
  bound_left l known bound none·left =
      let at : get_or left l none ≡ none = get_d_entries (word_at (finish r ss output).1.0) r.buffer.labels l none known ∙ none·left in
      split (moves p.events)
      (λ jump.
      let a = finish_answered r ss output e in
      let sound = a.fit.sound in
      let few = a.fit.few in
      let c = (settled p).choice in
      let near = target_bound_lem p c (fitting r sound few (keeps r sound few jump) a.fit a.bound (a.jumped jump)) l bound in
      let goes : target p c l ≡ none =
      sym (ap (λ (n : ℕ). get_or (map (moved p c) p.labels) l n) (sym (moved_none p c)) ∙ get_or-map (moved p c) p.labels l none)
      ∙ (ap (λ (t : List ℕ). get_or t l none) (sym (offsets_moved jump)) ∙ at) in
      omega (arith, near, goes))
      (λ stays. bound (ap (λ (t : List ℕ). get_or t l none) (sym (offsets_kept stays)) ∙ at))
