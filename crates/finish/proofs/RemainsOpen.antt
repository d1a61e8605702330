-- What remains open once the constants are pooled: binding their labels settles the entries that name one, and opens none. So 15 is answered just where the
-- number of open entries, less those, is not 0.
use mathlib.Core.Path.{◌≡◌, refl, sym, ap, ◌∙◌, subst}
use mathlib.Core.Logic.{◌≢◌, ⊎_elim}
use mathlib.Core.Bool.{not}
use mathlib.Core.List.{List, []}
use Prim.Native.Nat.{ℕ, ◌+◌, ◌-◌, ◌≤◌, ◌<◌}
use native.Mathlib.Omega.{arith}
use borrow.Author.Tests.{eq-eqb, ne_eqb}
use lib.Dec.{eqb}
use lib.ListN.{take}
use Rattle.seqs.specs.Pick.{pick}
use Rattle.seqs.specs.Counting.{one}
use Rattle.seqs.specs.Every.{all}
use Rattle.seqs.proofs.Every.{all_of, all_fails}
use Rattle.words.specs.Words.{word_at}
use Rattle.naming.specs.steps.Open.{is_open_at}
use Rattle.buffer.specs.State.{none}
use Rattle.buffer.specs.Tables.{most_entries}
use Rattle.buffer.specs.steps.Count.{open_count}
use Rattle.recording.specs.Calls.{Recording}
use Rattle.recording.specs.Sound.{Sound}
use Rattle.recording.specs.View.{entries, constant_at, view, see_labels}
use Rattle.recording.specs.Open.{naming, is_open, open_of, is_pooled, settled_by}
use Rattle.recording.proofs.Views.{get_d_entries, every_entries}
use Rattle.recording.proofs.Naming.{naming_sum, open_at, open_count_lem}
use Rattle.fresh.specs.Pooled.{pooled}
use Rattle.pool.specs.steps.Pool.{label_at, pool_bound}
use Rattle.pool.proofs.Turns.{pool_offset_bound, pool_bound_other}
use Rattle.checks.specs.Lent.{recording_of}
use Rattle.finish.specs.Refusals.{all_bound, why_unfit}
use Rattle.finish.proofs.SoundRecording.{owner, pool_fits, pooled_is, ready}
use Rattle.finish.proofs.ScansAgree.{unbound_at, none_open}
use Rattle.finish.proofs.FitOrRefused.{asked_few, sound, Passed, passed_unfit}

-- a word that is the same leaves its label open, or bound
open_same : (labels labels' : List ℕ) (count l : ℕ) → word_at labels' l ≡ word_at labels l → is_open (entries (word_at labels') count) l ≡ is_open (entries (word_at labels) count) l
unfolding is_open_at
open_same labels labels' count l same = open_at labels' count l ∙ rw same (sym (open_at labels count l))

module _ (r : Recording) (segments output : ℕ) (pass : Passed r segments output) where
  is_sound : Sound r
  is_sound = sound r segments output pass.stood pass.fit

  few : r.buffer.asked ≤ most_entries
  few = asked_few r segments output pass.stood

  -- the labels once the pool's are bound
  abbrev bound : List ℕ
  bound = pool_bound r.buffer.code r.labels r.constants r.asked r.buffer.asked

  abbrev labels : List ℕ
  labels = entries (word_at bound) r.buffer.labels

  -- the labels of the constants that were asked for, as the tables say them
  pooled_at : (l : ℕ) → is_pooled (view r) l ≡ not (all (λ (j : ℕ). not (eqb (label_at r.constants r.asked j) l)) r.buffer.asked)
  pooled_at l =
      ap not
      (every_entries _ (word_at r.asked) (λ (j : ℕ). not (eqb (label_at r.constants r.asked j) l)) r.buffer.asked
      (λ j h. rw (get_d_entries (constant_at r.constants) r.buffer.constants (word_at r.asked j) (record { bytes = []; label = none }) (is_sound.asked.listed j h).0)))

  -- a label was open just where it is the pool's or open now, and it is not both
  abbrev Settled : ℕ → Type 0
  Settled l = one (is_open (view r).labels l) ≡ one (is_pooled (view r) l) + one (is_open labels l)

  -- one of the pool was open, and is bound
  pool_settled : (j : ℕ) → j < r.buffer.asked → Settled (label_at r.constants r.asked j)
  unfolding pick
  pool_settled j h =
      let l = label_at r.constants r.asked j in
      let pools = ready r is_sound few in
      let near = pool_offset_bound r.buffer.code r.constants r.asked r.buffer.asked (pool_fits r is_sound few) j h in
      rw (
        pooled_at l,
        all_fails (λ (i : ℕ). not (eqb (label_at r.constants r.asked i) l)) r.buffer.asked j h (rw (eq-eqb l l refl)),
        get_d_entries (word_at r.labels) r.buffer.labels l none (pools.owned j h),
        unbound_at r.labels r.constants r.asked r.buffer.asked pass.free j h,
        get_d_entries (word_at bound) r.buffer.labels l none (pools.owned j h),
        ne_eqb (word_at bound l) none (λ e. omega (arith, e, pools.stands j h, near, is_sound.code.limit, few)),
      )

  -- any other stays as it was
  other_settled : (l : ℕ) → ((j : ℕ) → j < r.buffer.asked → l ≢ label_at r.constants r.asked j) → Settled l
  unfolding pick
  other_settled l other =
      rw (
        pooled_at l,
        all_of (λ (j : ℕ). not (eqb (label_at r.constants r.asked j) l)) r.buffer.asked (λ j h. rw (ne_eqb (label_at r.constants r.asked j) l (λ e. other j h (sym e)))),
        open_same r.labels bound r.buffer.labels l (pool_bound_other r.buffer.code r.labels r.constants r.asked r.buffer.asked l other),
      )
      (omega arith)

  label_settled : (l : ℕ) → Settled l
  label_settled l =
      ⊎_elim
      (λ (f : (j : ℕ) × (j < r.buffer.asked) × (l ≡ label_at r.constants r.asked j)). subst Settled (sym f.2) (pool_settled f.0 f.1))
      (λ (other : (j : ℕ) → j < r.buffer.asked → l ≢ label_at r.constants r.asked j). other_settled l other)
      (owner r.constants r.asked l r.buffer.asked)

  -- what was open is settled by the pool's labels, or remains
  open_pooled : open_of (view r) ≡ settled_by (view r) + open_of (see_labels (view r) labels)
  unfolding naming
  open_pooled = naming_sum (is_open (view r).labels) (is_pooled (view r)) (is_open labels) label_settled (view r)

  -- where nothing was open, nothing is
  pub none_opened : r.buffer.unresolved ≡ 0 → open_count r.buffer bound r.events r.uses r.refs r.relocs ≡ 0
  none_opened z =
      omega (
        arith,
        pass.right,
        open_pooled,
        open_count_lem (recording_of r.buffer r.code bound r.events r.uses r.refs r.constants r.asked r.relocs),
      )

  bound_where_none_remains : all_bound (pooled r.buffer.arch (view r)) (view r).relocs ≡ eqb (open_of (see_labels (view r) labels)) 0
  bound_where_none_remains =
      rw (pooled_is r is_sound few)
      (none_open (see_labels (view r) labels) r.buffer.arch r.buffer.code (take r.buffer.code r.code) r.constants r.asked r.buffer.asked)

-- 15 follows exactly if something remains.
pub remains_open : (r : Recording) (segments output : ℕ) → why_unfit r segments output ≡ 0
    → all_bound (pooled r.buffer.arch (view r)) (view r).relocs ≡ eqb (r.buffer.unresolved - settled_by (view r)) 0
remains_open r segments output unfit =
    let pass = passed_unfit r segments output unfit in
    let remain : open_of (see_labels (view r) (labels r segments output pass)) ≡ r.buffer.unresolved - settled_by (view r)
    = omega (arith, pass.right, open_pooled r segments output pass) in
    bound_where_none_remains r segments output pass ∙ ap (λ (k : ℕ). eqb k 0) remain
