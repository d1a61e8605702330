-- What a call does to the greatest offset of a label below a limit: a bind adds the current offset, no other call changes it.
use mathlib.Core.Path.{◌≡◌, refl, ap, ◌∙◌}
use mathlib.Core.Bool.{Bool, true, false}
use mathlib.Core.List.{List}
use Prim.Native.Nat.{ℕ, ◌+◌, ◌/◌, max, ◌≤◌, ◌<◌}
use native.Mathlib.Omega.{arith}
use borrow.Author.Tests.{leb-false}
use lib.Dec.{leb, ltb}
use lib.ListN.{length}
use Rattle.seqs.proofs.Booleans.{true_is_not_false, both_false}
use Rattle.seqs.proofs.Picking.{yes_eq}
use Rattle.words.specs.Words.{set_word}
use Rattle.buffer.specs.declared.CodeBuffer.{CodeBuffer}
use Rattle.buffer.specs.State.{Recorded, Made, none, with_refusal, refusing}
use Rattle.relax.specs.Events.{event_size}
use Rattle.buffer.specs.Tables.{label_size, use_size, ref_size, asked_size, reloc_size}
use Rattle.buffer.specs.Refusals.{why_label, why_bind, no_room_to_ask}
use Rattle.buffer.specs.Calls.{put_bytes, get_label, bind_label, aligned_events, align_to, use_label, record_ref, record_jump, add_constant, asked_first, constant_label, add_reloc}
use Rattle.buffer.specs.steps.Below.{under, greatest_below}
use Rattle.buffer.proofs.Accepted.{label_accepted, bind_accepted}
use Rattle.buffer.proofs.Below.{below_new_label, below_bind}
use Rattle.recording.specs.Calls.{Recording, Word, Call, bytes, new_label, bind, align, use_of_label, ref, jump, constant, label_of_constant, relocation, after, answered}
use Rattle.recording.proofs.Steps.{either, tested, unless}

-- whether a call binds a label
abbrev pub binds : Call → Bool
binds (bytes l) = false
binds new_label = false
binds (bind l) = true
binds (align m most) = false
binds (use_of_label o l c) = false
binds (ref o l c d) = false
binds (jump p n l c) = false
binds (constant l) = false
binds (label_of_constant n) = false
binds (relocation o k t d) = false

-- a bind that is not turned down
bind_answered : (r : Recording) (l : Word) → answered (bind l) r ≡ 0
    → why_bind r.buffer r.labels (length r.events / event_size) (length r.uses / use_size) (length r.refs / ref_size) (length r.relocs / reloc_size) l.value ≡ 0
unfolding bind_label
bind_answered r l =
    let why = why_bind r.buffer r.labels (length r.events / event_size) (length r.uses / use_size) (length r.refs / ref_size) (length r.relocs / reloc_size) l.value in
    tested why 0 (λ (a : Recorded × List ℕ). a.0.refusal ≡ 0 → why ≡ 0) _ _ (λ h z. h) (λ z. z)

module _ (r : Recording) (limit : ℕ) (bounded : limit ≤ none) where
  -- a table and its count have the same greatest offset below the limit
  abbrev Same : List ℕ → ℕ → Type 0
  Same labels n = greatest_below labels n limit ≡ greatest_below r.labels r.buffer.labels limit

  refused : (why : ℕ) → Same r.labels (refusing r.buffer why).labels
  unfolding refusing
  refused why = either (ltb why 6) (λ (b : CodeBuffer). Same r.labels b.labels) r.buffer (with_refusal r.buffer why) refl refl

  one_label_more : r.buffer.labels < length r.labels / label_size → Same (set_word r.labels r.buffer.labels none) (r.buffer.labels + 1)
  one_label_more fits = below_new_label r.labels limit bounded r.buffer.labels (omega arith)

  -- of the answers of calls that are not lent the labels
  abbrev Recorded·same : Recorded × List ℕ → Type 0
  Recorded·same a = Same r.labels a.0.buffer.labels

  -- A call that binds nothing changes nothing, whether it is accepted or not.
  pub below_kept : (c : Call) → binds c ≡ false → Same (after c r).labels (after c r).buffer.labels
  unfolding put_bytes get_label bind_label aligned_events align_to use_label record_ref record_jump add_constant asked_first constant_label add_reloc
  below_kept (bytes l) h = either _ Recorded·same _ _ refl (refused _)
  below_kept new_label h =
      tested (why_label r.buffer (length r.labels / label_size)) 0 (λ (a : Made × List ℕ). Same a.1 a.0.buffer.labels) _ _
      (λ z. one_label_more (label_accepted z).fits)
      (refused _)
  below_kept (bind l) h = absurd (true_is_not_false h)
  below_kept (align m most) h =
      either _ (λ (a : Recorded × (List ℕ × List ℕ)). Same r.labels a.0.buffer.labels) _ _
      (either _ (λ (a : CodeBuffer × List ℕ). Same r.labels a.0.labels) _ _ refl refl)
      (refused _)
  below_kept (use_of_label o l c) h = either _ Recorded·same _ _ refl (refused _)
  below_kept (ref o l c d) h = either _ Recorded·same _ _ (either _ Recorded·same _ _ refl refl) (refused _)
  below_kept (jump p n l c) h = either _ Recorded·same _ _ (either _ Recorded·same _ _ refl refl) (refused _)
  below_kept (constant l) h = either _ (λ (a : Made × List ℕ). Same r.labels a.0.buffer.labels) _ _ refl (refused _)
  below_kept (label_of_constant n) h =
      let asked = length r.asked / asked_size in
      let labels = length r.labels / label_size in
      let P : Made × (List ℕ × (List ℕ × List ℕ)) → Type 0 = λ a. Same a.1.1.1 a.0.buffer.labels in
      either _ P _ _
      (either _ P _ _
      (unless (no_room_to_ask r.buffer asked labels) P _ _
      (refused _)
      (λ room. one_label_more (leb-false labels r.buffer.labels (both_false (leb labels r.buffer.labels) (leb asked r.buffer.asked) room).0)))
      refl)
      (refused _)
  below_kept (relocation o k t d) h = either _ Recorded·same _ _ refl (refused _)

  -- A bind that is accepted adds the current offset.
  pub below_bound : (l : Word) → r.buffer.code < 4294967296 → answered (bind l) r ≡ 0
      → greatest_below (after (bind l) r).labels (after (bind l) r).buffer.labels limit ≡ max (under r.buffer.code limit) (greatest_below r.labels r.buffer.labels limit)
  unfolding bind_label
  below_bound l small z =
      let b = r.buffer in
      let why = bind_answered r l z in
      let f = bind_accepted why in
      ap (λ (a : Recorded × List ℕ). greatest_below a.1 a.0.buffer.labels limit) (yes_eq _ 0 _ _ why)
      ∙ below_bind r.labels limit bounded b.labels l.value b.code f.known (omega (arith, f.room)) small f.unbound
