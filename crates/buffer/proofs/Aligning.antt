-- An alignment of the tables and then of the counts is `align_to`, and fits what the counts may be.
use mathlib.Core.Path.{◌≡◌, refl, sym, ap, ◌∙◌}
use mathlib.Core.Logic.{◌≢◌, ⊎_elim}
use mathlib.Core.Bool.{Bool, true, false}
use mathlib.Core.List.{List}
use Prim.Native.Nat.{ℕ, ◌+◌, ◌/◌, ◌≤◌, ◌<◌}
use native.Mathlib.Omega.{arith}
use lib.ListN.{length}
use Rattle.seqs.specs.Over.{over}
use Rattle.seqs.specs.Pick.{pick}
use Rattle.seqs.proofs.Numbers.{eq_or_ne}
use Rattle.seqs.proofs.Picking.{yes_eq, no_eq}
use Rattle.encoder.specs.Padding.{padding_within}
use Rattle.relax.specs.Events.{event_size}
use Rattle.std.specs.Prelude.{Result, Ok, Err, IfOk}
use Rattle.refusals.specs.declared.Refusal.{Refusal}
use Rattle.buffer.specs.declared.CodeBuffer.{CodeBuffer}
use Rattle.buffer.specs.State.{Recorded, keeps_events, with_code, with_events, accepted}
use Rattle.buffer.specs.Refusals.{why_align}
use Rattle.buffer.specs.Calls.{padding, aligned_events, align_to}
use Rattle.buffer.specs.Tables.{most_entries, most_code}
use Rattle.buffer.specs.steps.Aligned.{Spent, spent_of, aligned_tables, aligned_counts}
use Rattle.buffer.proofs.Accepted.{align_accepted}

first_picked : {A B : Type 0} (t : Bool) (x y : A × B) → (pick t x y).0 ≡ pick t x.0 y.0
unfolding pick
first_picked true x y = refl
first_picked false x y = refl

-- an event more, on X64
counts_picked : (b : CodeBuffer) (events : List ℕ) (multiple most : ℕ)
    → (aligned_events b events multiple most).0 ≡ pick (keeps_events b.arch) (with_events b (b.events + 1)) b
unfolding aligned_events
counts_picked b events multiple most = first_picked (keeps_events b.arch) (with_events b (b.events + 1), _) (b, events)

module _ (b : CodeBuffer) (code events : List ℕ) (multiple most : ℕ) (spent : Spent) (tables : List ℕ × List ℕ)
    (done : (spent, tables) ≡ aligned_tables b code events multiple most) where
  pub align_answered : {r : Recorded} → r ≡ aligned_counts b spent → (r, tables) ≡ align_to b code events multiple most
  unfolding aligned_tables aligned_counts align_to
  align_answered e =
      let why = why_align b (length code) (length events / event_size) multiple most in
      let n = padding_within b.code multiple most in
      let left : List ℕ × List ℕ = (over code b.code (padding b.arch n), (aligned_events b events multiple most).1) in
      ⊎_elim
      (λ (h : why ≡ 0).
      let is = done ∙ yes_eq why 0 _ _ h in
      let counts = e ∙ (ap (λ (x : Spent × (List ℕ × List ℕ)). aligned_counts b x.0) is ∙ yes_eq 0 0 _ _ refl) in
      rw (counts, ap (λ (x : Spent × (List ℕ × List ℕ)). x.1) is)
      (ap (λ (x : CodeBuffer). (accepted (with_code x (b.code + n)), left)) (sym (counts_picked b events multiple most)) ∙ sym (yes_eq why 0 _ _ h)))
      (λ (ne : why ≢ 0).
      let is = done ∙ no_eq why 0 _ _ ne in
      let counts = e ∙ (ap (λ (x : Spent × (List ℕ × List ℕ)). aligned_counts b x.0) is ∙ no_eq why 0 _ _ ne) in
      rw (counts, ap (λ (x : Spent × (List ℕ × List ℕ)). x.1) is) (sym (no_eq why 0 _ _ ne)))
      (eq_or_ne why 0)

  -- where it is not turned down, the new counts are within their limits
  pub aligned_fits : spent.refusal ≡ 0 → (b.code + spent.len ≤ most_code) × (keeps_events b.arch ≡ true → b.events < most_entries)
  unfolding aligned_tables
  aligned_fits none =
      let why = why_align b (length code) (length events / event_size) multiple most in
      ⊎_elim
      (λ (h : why ≡ 0).
      let size = ap (λ (x : Spent × (List ℕ × List ℕ)). x.0.len) (done ∙ yes_eq why 0 _ _ h) in
      let f = align_accepted h in
      (omega (arith, size, f.fits, f.few), λ x64. omega (arith, f.event x64, f.few_events)))
      (λ (ne : why ≢ 0). absurd (ne (sym (ap (λ (x : Spent × (List ℕ × List ℕ)). x.0.refusal) (done ∙ no_eq why 0 _ _ ne)) ∙ none)))
      (eq_or_ne why 0)

-- the same of the program's answer
pub told_fits : (b : CodeBuffer) (o : Result ℕ Refusal)
    → ((spent_of o).refusal ≡ 0 → (b.code + (spent_of o).len ≤ most_code) × (keeps_events b.arch ≡ true → b.events < most_entries))
    → IfOk o (λ len. (b.code + len ≤ most_code) × (keeps_events b.arch ≡ true → b.events < most_entries))
told_fits b (Ok n) h = h refl
told_fits b (Err r) h = tt
