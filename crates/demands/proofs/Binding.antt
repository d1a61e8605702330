-- Every label that a use, a ref or a jump names is bound in the table that finish leaves.
use mathlib.Core.Path.{◌≡◌, sym, ap, ◌∙◌}
use mathlib.Core.Logic.{◌≢◌, ⊎_elim}
use mathlib.Core.Bool.{Bool, true, ◌&&◌}
use mathlib.Core.List.{List}
use Prim.Native.Nat.{ℕ, ◌≤◌, ◌<◌}
use native.Mathlib.Omega.{arith}
use lib.ListN.{length, get_or, get_or-eq_default}
use Rattle.seqs.specs.Every.{every}
use Rattle.seqs.proofs.Booleans.{both_true}
use Rattle.seqs.proofs.Every.{every_at}
use Rattle.seqs.proofs.Numbers.{lt_or_ge}
use Rattle.words.specs.Words.{word_at}
use Rattle.relax.specs.declared.LayoutEvent.TheVariants.{Jump}
use Rattle.relax.specs.declared.RelaxableJump.{RelaxableJump}
use Rattle.relax.specs.declared.Segment.{Segment}
use Rattle.buffer.specs.State.{none}
use Rattle.recording.specs.Calls.{Recording}
use Rattle.recording.specs.View as tables
use Rattle.recording.proofs.Views.{length_entries, get_d_entries}
use Rattle.fresh.specs.Pooled.{Pooled, pooled}
use Rattle.fresh.specs.Forms.{branch_of, role_of}
use Rattle.finish.specs.Refusals.{is_bound, jump_bound, reloc_bound, all_bound}
use Rattle.finish.specs.Finish.{finish}
use Rattle.demands.specs.Demand2.{use_of, ref_of, event_of}
use Rattle.demands.proofs.Answers.{finish_answered}
use Rattle.demands.proofs.Discharged.{is_bound_lem, jumps_bound, labelled}
use Rattle.demands.proofs.Offsets.{bound_left}

module _ (r : Recording) (ss : List Segment) (output : List ℕ) (e : (finish r ss output).0.refusal ≡ 0) where
  abbrev p : Pooled
  p = pooled r.buffer.arch (tables.view r)

  abbrev count : ℕ
  count = r.buffer.labels

  abbrev handed : ℕ → ℕ
  handed i = get_or (tables.entries (word_at (finish r ss output).1.0) count) i none

  -- a label that is bound once the pool is laid
  label_handed : (i : ℕ) → get_or p.labels i none ≢ none → handed i ≢ none
  label_handed i bound z =
      let a = finish_answered r ss output e in
      let at = labelled r a.fit.sound a.fit.few in
      ⊎_elim
      (λ (known : i < count). bound_left r ss output e i known bound (sym (get_d_entries (word_at (finish r ss output).1.0) count i none known) ∙ z))
      (λ (past : count ≤ i).
      let long : length (tables.entries at.0 count) ≤ i = omega (arith, length_entries at.0 count) in
      bound (ap (λ (t : List ℕ). get_or t i none) at.1 ∙ get_or-eq_default (tables.entries at.0 count) none long))
      (lt_or_ge i count)

  all_bound_lem : all_bound p (tables.view r).relocs ≡ true
  all_bound_lem = (finish_answered r ss output e).bound

  pub use_bound : (i : ℕ) → i < length p.uses → handed (use_of p i).label ≢ none
  unfolding all_bound
  use_bound i h =
      let refs = every (λ (f : tables.Ref). is_bound p.labels f.label) p.refs in
      let jumps = every (jump_bound p.labels) p.events in
      let relocs = every (reloc_bound p.labels) (tables.view r).relocs in
      let test : tables.Use → Bool = λ u. is_bound p.labels u.label in
      label_handed (use_of p i).label
      (is_bound_lem p.labels (use_of p i).label (every_at test p.uses _ (both_true (every test p.uses) (relocs && (refs && jumps)) all_bound_lem).0 i h))

  pub ref_bound : (i : ℕ) → i < length p.refs → handed (ref_of p i).label ≢ none
  unfolding all_bound
  ref_bound i h =
      let test : tables.Ref → Bool = λ f. is_bound p.labels f.label in
      let refs = every test p.refs in
      let jumps = every (jump_bound p.labels) p.events in
      let relocs = every (reloc_bound p.labels) (tables.view r).relocs in
      let uses = every (λ (u : tables.Use). is_bound p.labels u.label) p.uses in
      label_handed (ref_of p i).label
      (is_bound_lem p.labels (ref_of p i).label
      (every_at test p.refs _ (both_true refs jumps (both_true relocs (refs && jumps) (both_true uses (relocs && (refs && jumps)) all_bound_lem).1).1).0 i h))

  pub jump_bound_lem : (i : ℕ) (v : RelaxableJump) → i < length p.events → event_of p i ≡ Jump v → handed v.label ≢ none
  unfolding role_of
  jump_bound_lem i v h is = label_handed v.label (jumps_bound p (tables.view r).relocs all_bound_lem i (branch_of v) h (ap role_of is))
