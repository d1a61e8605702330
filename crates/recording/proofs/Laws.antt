-- The law of each call over the view of a recording: what a call that is not turned down adds, and that one that is changes nothing.
use mathlib.Core.Path.{◌≡◌, refl, sym, ap, ◌∙◌}
use mathlib.Core.Logic.{◌≢◌}
use mathlib.Core.Bool.{true, false}
use mathlib.Core.List.{List, [], ◌∷◌, ◌++◌}
use Prim.Native.Nat.{ℕ, ◌+◌, ◌*◌, ◌/◌, ◌%◌, ◌<◌}
use native.Mathlib.Omega.{arith}
use borrow.Author.Tests.{leb-false}
use lib.Dec.{leb, ltb}
use lib.ListN.{length, set, take}
use Rattle.seqs.specs.Over.{over}
use Rattle.seqs.proofs.Overwrites.{take_over_end}
use Rattle.seqs.proofs.Booleans.{both_false}
use Rattle.seqs.proofs.Picking.{pick_yes, pick_no, yes_eq, no_eq}
use Rattle.words.proofs.Entries.{three_words, four_words, five_words, six_words}
use Rattle.encoder.specs.Padding.{padding_within}
use Rattle.relax.specs.Events.{event_of, set_event, event_words, event_size}
use Rattle.buffer.specs.declared.CodeBuffer.{CodeBuffer}
use Rattle.buffer.specs.State.{Recorded, Made, none, keeps_events, with_code, with_refusal, refusing}
use Rattle.buffer.specs.Refusals.{why_bytes, why_label, why_bind, why_align, why_use, why_ref, why_jump, why_constant, why_constant_label, no_room_to_ask, why_reloc}
use Rattle.buffer.specs.Calls.{put_bytes, get_label, bind_label, padding, aligned_events, align_to, use_label, record_ref, record_jump, add_constant, asked_first, constant_label, add_reloc}
use Rattle.buffer.proofs.Appends.{padding_length_lem}
use Rattle.buffer.proofs.Accepted.{
  bytes_accepted,
  label_accepted,
  bind_accepted,
  align_accepted,
  use_accepted,
  ref_accepted,
  jump_accepted,
  constant_accepted,
  constant_label_accepted,
  reloc_accepted,
}
use Rattle.buffer.specs.Tables.{label_size, use_words, use_size, ref_words, ref_size, constant_words, constant_size, constant_head, asked_size, reloc_words, reloc_size}
use Rattle.recording.specs.Calls.{Recording, Word, Word64, bytes, new_label, bind, align, use_of_label, ref, jump, constant, label_of_constant, relocation, with_buffer, with_code_table, with_label_table, with_event_table, with_use_table, with_ref_table, with_constant_table, with_asked_table, with_reloc_table, after, Call, answered}
use Rattle.recording.specs.Sound.{label_of, Sound}
use Rattle.recording.specs.View.{constant_at, view, see_code, see_labels, see_events, see_uses, see_refs, see_constants, see_asked, see_relocs}
use Rattle.recording.proofs.Steps.{either}
use Rattle.recording.proofs.Tables.{appended, appended_before}
use Rattle.recording.proofs.Views.{
  one_use_more,
  one_ref_more,
  one_reloc_more,
  one_event_more,
  one_word_more,
  word_set,
  one_constant_more,
  constant_labelled,
}

refusing_unseen : (r : Recording) (why : ℕ) → view (with_buffer r (refusing r.buffer why)) ≡ view r
unfolding refusing
refusing_unseen r why = either (ltb why 6) (λ (b : CodeBuffer). view (with_buffer r b) ≡ view r) r.buffer (with_refusal r.buffer why) refl refl

-- A call that is turned down changes nothing that is seen.
pub turned_down_unseen : (c : Call) (r : Recording) → answered c r ≢ 0 → view (after c r) ≡ view r
unfolding put_bytes get_label bind_label align_to use_label record_ref record_jump add_constant asked_first constant_label add_reloc
turned_down_unseen (bytes l) r =
    either _ (λ (a : Recorded × List ℕ). a.0.refusal ≢ 0 → view (with_code_table r a.0.buffer a.1) ≡ view r) _ _ (λ ne. absurd (ne refl)) (λ ne. refusing_unseen r _)
turned_down_unseen new_label r =
    either _ (λ (a : Made × List ℕ). a.0.refusal ≢ 0 → view (with_label_table r a.0.buffer a.1) ≡ view r) _ _ (λ ne. absurd (ne refl)) (λ ne. refusing_unseen r _)
turned_down_unseen (bind l) r =
    either _ (λ (a : Recorded × List ℕ). a.0.refusal ≢ 0 → view (with_label_table r a.0.buffer a.1) ≡ view r) _ _ (λ ne. absurd (ne refl)) (λ ne. refl)
turned_down_unseen (align m most) r =
    either _
    (λ (a : Recorded × (List ℕ × List ℕ)). a.0.refusal ≢ 0 → view (with_event_table (with_code_table r a.0.buffer a.1.0) a.0.buffer a.1.1) ≡ view r)
    _ _ (λ ne. absurd (ne refl)) (λ ne. refusing_unseen r _)
turned_down_unseen (use_of_label o l c) r =
    either _ (λ (a : Recorded × List ℕ). a.0.refusal ≢ 0 → view (with_use_table r a.0.buffer a.1) ≡ view r) _ _ (λ ne. absurd (ne refl)) (λ ne. refusing_unseen r _)
turned_down_unseen (ref o l c d) r =
    let P : Recorded × List ℕ → Type 0 = λ a. a.0.refusal ≢ 0 → view (with_ref_table r a.0.buffer a.1) ≡ view r in
    either _ P _ _ (either _ P _ _ (λ ne. absurd (ne refl)) (λ ne. absurd (ne refl))) (λ ne. refusing_unseen r _)
turned_down_unseen (jump p n l c) r =
    let P : Recorded × List ℕ → Type 0 = λ a. a.0.refusal ≢ 0 → view (with_event_table r a.0.buffer a.1) ≡ view r in
    either _ P _ _ (either _ P _ _ (λ ne. absurd (ne refl)) (λ ne. absurd (ne refl))) (λ ne. refusing_unseen r _)
turned_down_unseen (constant l) r =
    either _ (λ (a : Made × List ℕ). a.0.refusal ≢ 0 → view (with_constant_table r a.0.buffer a.1) ≡ view r) _ _ (λ ne. absurd (ne refl)) (λ ne. refusing_unseen r _)
turned_down_unseen (label_of_constant n) r =
    let P : Made × (List ℕ × (List ℕ × List ℕ)) → Type 0 =
    λ a. a.0.refusal ≢ 0 → view (with_label_table (with_asked_table (with_constant_table r a.0.buffer a.1.0) a.1.1.0) a.0.buffer a.1.1.1) ≡ view r in
    either _ P _ _ (either _ P _ _ (either _ P _ _ (λ ne. refusing_unseen r 11) (λ ne. absurd (ne refl))) (λ ne. absurd (ne refl))) (λ ne. refusing_unseen r _)
turned_down_unseen (relocation o k t d) r =
    either _ (λ (a : Recorded × List ℕ). a.0.refusal ≢ 0 → view (with_reloc_table r a.0.buffer a.1) ≡ view r) _ _ (λ ne. absurd (ne refl)) (λ ne. refusing_unseen r _)

module _ (r : Recording) where
  pub see_bytes : (l : List ℕ) → why_bytes r.buffer (length r.code) (length l) ≡ 0 → view (after (bytes l) r) ≡ see_code (view r) ((view r).code ++ l)
  unfolding put_bytes
  see_bytes l h =
      let b = r.buffer in
      let f = bytes_accepted h in
      ap (λ (a : Recorded × List ℕ). view (with_code_table r a.0.buffer a.1)) (yes_eq _ 0 _ _ h)
      ∙ rw (take_over_end r.code b.code l f.room)

  pub see_new_label : why_label r.buffer (length r.labels / label_size) ≡ 0 → view (after new_label r) ≡ see_labels (view r) ((view r).labels ++ (none ∷ []))
  unfolding get_label
  see_new_label h =
      let n = r.buffer.labels in
      let f = label_accepted h in
      let fits = f.fits in
      ap (λ (a : Made × List ℕ). view (with_label_table r a.0.buffer a.1)) (yes_eq _ 0 _ _ h)
      ∙ rw (one_word_more r.labels _ n none (appended r.labels _ n (none ∷ []) refl (omega arith) (omega arith, tt)))

  pub see_bind : (l : Word) → why_bind r.buffer r.labels (length r.events / event_size) (length r.uses / use_size) (length r.refs / ref_size) (length r.relocs / reloc_size) l.value ≡ 0 → r.buffer.code < 4294967296
      → view (after (bind l) r) ≡ see_labels (view r) (set (view r).labels l.value r.buffer.code)
  unfolding bind_label
  see_bind l h small =
      let f = bind_accepted h in
      let room = f.room in
      ap (λ (a : Recorded × List ℕ). view (with_label_table r a.0.buffer a.1)) (yes_eq _ 0 _ _ h)
      ∙ rw (word_set r.labels l.value r.buffer.code r.buffer.labels f.known (omega arith) small)

  pub see_use : (o l c : Word) → why_use r.buffer (length r.labels / label_size) (length r.uses / use_size) l.value c.value ≡ 0
      → view (after (use_of_label o l c) r) ≡ see_uses (view r) ((view r).uses ++ (record { offset = o.value; label = l.value; code = c.value } ∷ []))
  unfolding use_label
  see_use o l c h =
      let n = r.buffer.uses in
      let f = use_accepted h in
      let fits = f.fits in
      ap (λ (a : Recorded × List ℕ). view (with_use_table r a.0.buffer a.1)) (yes_eq _ 0 _ _ h)
      ∙ rw (one_use_more r.uses _ n o.value l.value c.value
      (appended r.uses _ (n * use_words) (o.value ∷ l.value ∷ c.value ∷ []) (three_words r.uses (n * use_words) o.value l.value c.value) (omega arith)
      (o.small, (l.small, (c.small, tt)))))

  -- refs are kept where events are, jumps on X64
  pub see_ref : (o l c d : Word) → why_ref r.buffer (length r.labels / label_size) (length r.refs / ref_size) l.value c.value ≡ 0 → keeps_events r.buffer.arch ≡ true
      → view (after (ref o l c d) r) ≡ see_refs (view r) ((view r).refs ++ (record { offset = o.value; label = l.value; code = c.value; addend = d.value } ∷ []))
  unfolding record_ref
  see_ref o l c d h kept =
      let n = r.buffer.refs in
      let f = ref_accepted h kept in
      let fits = f.fits in
      ap (λ (a : Recorded × List ℕ). view (with_ref_table r a.0.buffer a.1)) (yes_eq _ 0 _ _ h ∙ pick_yes _ _ _ kept)
      ∙ rw (one_ref_more r.refs _ n o.value l.value c.value d.value
      (appended r.refs _ (n * ref_words) (o.value ∷ l.value ∷ c.value ∷ d.value ∷ []) (four_words r.refs (n * ref_words) o.value l.value c.value d.value)
      (omega arith) (o.small, (l.small, (c.small, (d.small, tt))))))

  pub see_ref_elsewhere : (o l c d : Word) → why_ref r.buffer (length r.labels / label_size) (length r.refs / ref_size) l.value c.value ≡ 0 → keeps_events r.buffer.arch ≡ false
      → view (after (ref o l c d) r) ≡ view r
  unfolding record_ref
  see_ref_elsewhere o l c d h other =
      ap (λ (a : Recorded × List ℕ). view (with_ref_table r a.0.buffer a.1)) (yes_eq _ 0 _ _ h ∙ pick_no _ _ _ other)

  pub see_jump : (p n l c : Word) → why_jump r.buffer r.labels r.events p.value n.value l.value c.value ≡ 0 → r.buffer.arch ≡ 2
      → view (after (jump p n l c) r) ≡ see_events (view r) ((view r).events ++ (event_of 1 p.value n.value l.value c.value ∷ []))
  unfolding record_jump set_event
  see_jump p n l c h x64 =
      let k = r.buffer.events in
      let f = jump_accepted h x64 in
      let fits = f.fits in
      ap (λ (a : Recorded × List ℕ). view (with_event_table r a.0.buffer a.1)) (yes_eq _ 0 _ _ h ∙ yes_eq _ 2 _ _ x64)
      ∙ rw (one_event_more r.events _ k 1 p.value n.value l.value c.value
      (appended r.events _ (k * event_words) (1 ∷ p.value ∷ n.value ∷ l.value ∷ c.value ∷ []) (five_words r.events (k * event_words) 1 p.value n.value l.value c.value)
      (omega arith) (omega arith, (p.small, (n.small, (l.small, (c.small, tt)))))))

  pub see_jump_elsewhere : (p n l c : Word) → why_jump r.buffer r.labels r.events p.value n.value l.value c.value ≡ 0 → r.buffer.arch ≢ 2
      → view (after (jump p n l c) r) ≡ view r
  unfolding record_jump
  see_jump_elsewhere p n l c h other =
      ap (λ (a : Recorded × List ℕ). view (with_event_table r a.0.buffer a.1)) (yes_eq _ 0 _ _ h ∙ no_eq _ 2 _ _ other)

  pub see_reloc : (o k t : Word) (d : Word64) → why_reloc r.buffer (length r.labels / label_size) (length r.relocs / reloc_size) o.value k.value t.value ≡ 0
      → view (after (relocation o k t d) r)
      ≡ see_relocs (view r) ((view r).relocs ++ (record { offset = o.value; kind = k.value; target = t.value; addend = d.value } ∷ []))
  unfolding add_reloc
  see_reloc o k t d h =
      let n = r.buffer.relocs in
      let low = d.value % 4294967296 in
      let high = d.value / 4294967296 in
      let f = reloc_accepted h in
      let fits = f.fits in
      let wide = d.small in
      ap (λ (a : Recorded × List ℕ). view (with_reloc_table r a.0.buffer a.1)) (yes_eq _ 0 _ _ h)
      ∙ rw (one_reloc_more r.relocs _ n o.value k.value t.value d.value
      (appended r.relocs _ (n * reloc_words) (o.value ∷ k.value ∷ t.value ∷ 0 ∷ low ∷ high ∷ []) (six_words r.relocs (n * reloc_words) o.value k.value t.value 0 low high)
      (omega arith) (o.small, (k.small, (t.small, (omega arith, (omega arith, (omega arith, tt))))))))

  padded : (m most : Word) → why_align r.buffer (length r.code) (length r.events / event_size) m.value most.value ≡ 0
      → let pad = padding_within r.buffer.code m.value most.value in
      take (r.buffer.code + pad) (over r.code r.buffer.code (padding r.buffer.arch pad)) ≡ take r.buffer.code r.code ++ padding r.buffer.arch pad
  padded m most h =
      let b = r.buffer in
      let pad = padding_within b.code m.value most.value in
      let fits = (align_accepted h).fits in
      let size = padding_length_lem b.arch pad in
      ap (λ (n : ℕ). take (b.code + n) (over r.code b.code (padding b.arch pad))) (sym size)
      ∙ take_over_end r.code b.code (padding b.arch pad) (omega arith)

  -- an alignment pads, and where events are kept it is one
  pub see_align : (m most : Word) → why_align r.buffer (length r.code) (length r.events / event_size) m.value most.value ≡ 0 → keeps_events r.buffer.arch ≡ true
      → view (after (align m most) r)
      ≡ see_events (see_code (view r) ((view r).code ++ padding r.buffer.arch (padding_within r.buffer.code m.value most.value)))
      ((view r).events ++ (event_of 2 r.buffer.code (padding_within r.buffer.code m.value most.value) m.value most.value ∷ []))
  unfolding align_to aligned_events set_event
  see_align m most h kept =
      let b = r.buffer in
      let k = b.events in
      let pad = padding_within b.code m.value most.value in
      let f = align_accepted h in
      let fits = f.fits in
      let few = f.few in
      let room = f.event kept in
      ap (λ (a : Recorded × (List ℕ × List ℕ)). view (with_event_table (with_code_table r a.0.buffer a.1.0) a.0.buffer a.1.1)) (yes_eq _ 0 _ _ h)
      ∙ ap
      (λ (a : CodeBuffer × List ℕ).
      view (with_event_table (with_code_table r (with_code a.0 (b.code + pad)) (over r.code b.code (padding b.arch pad))) (with_code a.0 (b.code + pad)) a.1))
      (pick_yes _ _ _ kept)
      ∙ rw (
        padded m most h,
        one_event_more r.events _ k 2 b.code pad m.value most.value
            (appended r.events _ (k * event_words) (2 ∷ b.code ∷ pad ∷ m.value ∷ most.value ∷ []) (five_words r.events (k * event_words) 2 b.code pad m.value most.value) (omega arith)
            (omega arith, (omega arith, (omega arith, (m.small, (most.small, tt)))))),
      )

  pub see_align_elsewhere : (m most : Word) → why_align r.buffer (length r.code) (length r.events / event_size) m.value most.value ≡ 0 → keeps_events r.buffer.arch ≡ false
      → view (after (align m most) r) ≡ see_code (view r) ((view r).code ++ padding r.buffer.arch (padding_within r.buffer.code m.value most.value))
  unfolding align_to aligned_events
  see_align_elsewhere m most h other =
      let b = r.buffer in
      let pad = padding_within b.code m.value most.value in
      ap (λ (a : Recorded × (List ℕ × List ℕ)). view (with_event_table (with_code_table r a.0.buffer a.1.0) a.0.buffer a.1.1)) (yes_eq _ 0 _ _ h)
      ∙ ap
      (λ (a : CodeBuffer × List ℕ).
      view (with_event_table (with_code_table r (with_code a.0 (b.code + pad)) (over r.code b.code (padding b.arch pad))) (with_code a.0 (b.code + pad)) a.1))
      (pick_no _ _ _ other)
      ∙ rw (padded m most h)

  -- asking again changes nothing
  pub see_asking_again : (n : Word)
      → why_constant_label r.buffer (length r.constants / constant_size) (length r.asked / asked_size) (length r.labels / label_size) n.value ≡ 0
      → label_of r.constants n.value ≢ none → view (after (label_of_constant n) r) ≡ view r
  unfolding constant_label
  see_asking_again n h labelled =
      ap
      (λ (a : Made × (List ℕ × (List ℕ × List ℕ))).
      view (with_label_table (with_asked_table (with_constant_table r a.0.buffer a.1.0) a.1.1.0) a.0.buffer a.1.1.1))
      (yes_eq _ 0 _ _ h ∙ no_eq _ none _ _ labelled)

-- a constant's entry is one that recordings write
module _ (r : Recording) (s : Sound r) where
  pub see_constant : (l : List ℕ) → why_constant r.buffer (length r.constants / constant_size) (length l) ≡ 0
      → view (after (constant l) r) ≡ see_constants (view r) ((view r).constants ++ (record { bytes = l; label = none } ∷ []))
  unfolding add_constant
  see_constant l h =
      let n = r.buffer.constants in
      let f = constant_accepted h in
      let fits = f.fits in
      let small = f.small in
      let a =
      appended_before r.constants _ (n * constant_words) (length l ∷ none ∷ []) l (n * constant_size + constant_head) (omega arith)
      (appended r.constants _ (n * constant_words) (length l ∷ none ∷ []) refl (omega arith) (omega arith, (omega arith, tt))) in
      ap (λ (a : Made × List ℕ). view (with_constant_table r a.0.buffer a.1)) (yes_eq _ 0 _ _ h)
      ∙ rw (one_constant_more r.constants n r.buffer.labels l (omega arith) s.constants a)

  -- a constant's first asking lists it and makes it a label, which is not bound yet
  pub see_first_asking : (n : Word)
      → why_constant_label r.buffer (length r.constants / constant_size) (length r.asked / asked_size) (length r.labels / label_size) n.value ≡ 0
      → label_of r.constants n.value ≡ none → no_room_to_ask r.buffer (length r.asked / asked_size) (length r.labels / label_size) ≡ false
      → view (after (label_of_constant n) r)
      ≡ see_constants (see_asked (see_labels (view r) ((view r).labels ++ (none ∷ []))) ((view r).asked ++ (n.value ∷ [])))
      (set (view r).constants n.value (record { bytes = (constant_at r.constants n.value).bytes; label = r.buffer.labels }))
  unfolding constant_label asked_first
  see_first_asking n h unlabelled room =
      let b = r.buffer in
      let c = n.value in
      let labels = b.labels in
      let f = constant_label_accepted h in
      let rooms = both_false (leb (length r.labels / label_size) labels) (leb (length r.asked / asked_size) b.asked) room in
      let label_room = leb-false (length r.labels / label_size) labels rooms.0 in
      let asked_room = leb-false (length r.asked / asked_size) b.asked rooms.1 in
      let limit = s.labels.limit in
      let small = n.small in
      ap
      (λ (a : Made × (List ℕ × (List ℕ × List ℕ))).
      view (with_label_table (with_asked_table (with_constant_table r a.0.buffer a.1.0) a.1.1.0) a.0.buffer a.1.1.1))
      (yes_eq _ 0 _ _ h ∙ yes_eq _ none _ _ unlabelled ∙ pick_no _ _ _ room)
      ∙ rw (
        one_word_more r.labels _ labels none (appended r.labels _ labels (none ∷ []) refl (omega arith) (omega arith, tt)),
        one_word_more r.asked _ b.asked c (appended r.asked _ b.asked (c ∷ []) refl (omega arith) (small, tt)),
        constant_labelled r.constants b.constants labels c f.known f.room limit s.constants,
      )
