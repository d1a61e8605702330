-- The tables whose entries name labels, and the labels, have room for what is counted of them: every call keeps it so.
use mathlib.Core.Path.{◌≡◌, refl, ap}
use mathlib.Core.List.{List, [], ◌∷◌}
use Prim.Native.Nat.{ℕ, ◌+◌, ◌*◌, ◌/◌, ◌%◌, ◌≤◌, ◌<◌}
use native.Mathlib.Omega.{arith}
use borrow.Author.Tests.{leb-false}
use lib.Dec.{leb, ltb}
use lib.ListN.{length}
use Rattle.seqs.proofs.Booleans.{both_false}
use Rattle.words.proofs.Laws.{length_set_word}
use Rattle.words.proofs.Entries.{length_set_words, three_words, four_words, five_words, six_words}
use Rattle.seqs.specs.Over.{over}
use Rattle.encoder.specs.Padding.{padding_within}
use Rattle.fields.specs.Kinds.{arch_x64}
use Rattle.relax.specs.Events.{set_event, event_at, event_words, event_size, jump_kind, alignment_kind}
use Rattle.words.specs.Words.{set_word}
use Rattle.buffer.specs.declared.CodeBuffer.{CodeBuffer}
use Rattle.buffer.specs.State.{Recorded, Made, none, keeps_events, with_refusal, with_code, with_labels, with_events, with_uses, with_refs, with_asked, with_relocs, with_open, refusing, none_made}
use Rattle.buffer.specs.Tables.{most_entries, most_open, label_size, use_words, use_size, ref_words, ref_size, asked_size, reloc_words, reloc_size}
use Rattle.buffer.specs.Refusals.{why_label, why_align, why_use, why_ref, why_jump, no_room_to_ask, why_reloc}
use Rattle.buffer.specs.Calls.{padding, put_bytes, get_label, bind_label, aligned_events, align_to, use_label, record_ref, record_jump, add_constant, asked_first, constant_label, add_reloc}
use Rattle.buffer.specs.steps.Count.{NamersFit}
use Rattle.buffer.proofs.Accepted.{label_accepted, align_accepted, use_accepted, ref_accepted, jump_accepted, reloc_accepted}
use Rattle.recording.specs.Calls.{Recording, Word, Word64, Call, bytes, new_label, bind, align, use_of_label, ref, jump, constant, label_of_constant, relocation, with_buffer, with_code_table, with_label_table, with_event_table, with_use_table, with_ref_table, with_asked_table, with_constant_table, with_reloc_table, after}
use Rattle.recording.specs.View.{use_at, ref_at, reloc_at, view}
use Rattle.recording.specs.Open.{is_open, open_of}
use Rattle.recording.specs.steps.Righted.{Fitting}
use Rattle.recording.proofs.Naming.{naming_le}
use Rattle.recording.proofs.Steps.{either, tested, whether, unless}
use Rattle.recording.proofs.Views.{length_entries}

-- no more entries are open than the four tables hold
pub few_open : (r : Recording) → Fitting r → open_of (view r) ≤ most_open
few_open r f =
    let b = r.buffer in
    omega (
      arith,
      naming_le (is_open (view r).labels) (view r),
      length_entries (use_at r.uses) b.uses,
      length_entries (ref_at r.refs) b.refs,
      length_entries (reloc_at r.relocs) b.relocs,
      length_entries (event_at r.events) b.events,
      f.namers.uses_few,
      f.namers.refs_few,
      f.namers.relocs_few,
      f.namers.events_few,
    )

-- with one table anew, and its count
module _ {r : Recording} (f : Fitting r) (n : ℕ) (t : List ℕ) where
  uses_fit_lem : (k : ℕ) → n * use_size ≤ length t → n ≤ most_entries → Fitting (with_use_table r (with_open (with_uses r.buffer n) k) t)
  uses_fit_lem k room few =
      let x = f.namers in
      record {
        namers = record { events_room = x.events_room; uses_room = room; refs_room = x.refs_room; relocs_room = x.relocs_room; events_few = x.events_few; uses_few = few; refs_few = x.refs_few; relocs_few = x.relocs_few };
        labels = f.labels;
      }

  refs_fit_lem : (k : ℕ) → n * ref_size ≤ length t → n ≤ most_entries → Fitting (with_ref_table r (with_open (with_refs r.buffer n) k) t)
  refs_fit_lem k room few =
      let x = f.namers in
      record {
        namers = record { events_room = x.events_room; uses_room = x.uses_room; refs_room = room; relocs_room = x.relocs_room; events_few = x.events_few; uses_few = x.uses_few; refs_few = few; relocs_few = x.relocs_few };
        labels = f.labels;
      }

  relocs_fit_lem : (k : ℕ) → n * reloc_size ≤ length t → n ≤ most_entries → Fitting (with_reloc_table r (with_open (with_relocs r.buffer n) k) t)
  relocs_fit_lem k room few =
      let x = f.namers in
      record {
        namers = record { events_room = x.events_room; uses_room = x.uses_room; refs_room = x.refs_room; relocs_room = room; events_few = x.events_few; uses_few = x.uses_few; refs_few = x.refs_few; relocs_few = few };
        labels = f.labels;
      }

  events_fit_lem : (code : List ℕ) (at k : ℕ) → n * event_size ≤ length t → n ≤ most_entries
      → Fitting (with_event_table (with_code_table r (with_open (with_code (with_events r.buffer n) at) k) code) (with_open (with_code (with_events r.buffer n) at) k) t)
  events_fit_lem code at k room few =
      let x = f.namers in
      record {
        namers = record { events_room = room; uses_room = x.uses_room; refs_room = x.refs_room; relocs_room = x.relocs_room; events_few = few; uses_few = x.uses_few; refs_few = x.refs_few; relocs_few = x.relocs_few };
        labels = f.labels;
      }

-- other counts do not matter
same_namers : (b d : CodeBuffer) (events uses refs relocs : List ℕ) → d.events ≡ b.events → d.uses ≡ b.uses → d.refs ≡ b.refs → d.relocs ≡ b.relocs
    → NamersFit b events uses refs relocs → NamersFit d events uses refs relocs
same_namers b d events uses refs relocs ee eu er el x =
    record {
      events_room = omega (arith, ee, x.events_room);
      uses_room = omega (arith, eu, x.uses_room);
      refs_room = omega (arith, er, x.refs_room);
      relocs_room = omega (arith, el, x.relocs_room);
      events_few = omega (arith, ee, x.events_few);
      uses_few = omega (arith, eu, x.uses_few);
      refs_few = omega (arith, er, x.refs_few);
      relocs_few = omega (arith, el, x.relocs_few);
    }

module _ (r : Recording) (f : Fitting r) where
  abbrev b : CodeBuffer
  b = r.buffer

  abbrev namers_of : (d : CodeBuffer) → d.events ≡ b.events → d.uses ≡ b.uses → d.refs ≡ b.refs → d.relocs ≡ b.relocs → NamersFit d r.events r.uses r.refs r.relocs
  namers_of d ee eu er el = same_namers b d r.events r.uses r.refs r.relocs ee eu er el f.namers

  -- a call that is turned down
  refused : (why : ℕ) → Fitting (with_buffer r (refusing b why))
  unfolding refusing
  refused why =
      either (ltb why 6) (λ (x : CodeBuffer). Fitting (with_buffer r x)) b (with_refusal b why)
      (record { namers = f.namers; labels = f.labels })
      (record { namers = namers_of (with_refusal b why) refl refl refl refl; labels = f.labels })

  -- one label more
  label_fits_lem : (d : CodeBuffer) → d.events ≡ b.events → d.uses ≡ b.uses → d.refs ≡ b.refs → d.relocs ≡ b.relocs → d.labels ≡ b.labels + 1 → b.labels < length r.labels / label_size
      → Fitting (with_label_table r d (set_word r.labels b.labels none))
  label_fits_lem d ee eu er el more room =
      record { namers = namers_of d ee eu er el; labels = omega (arith, more, length_set_word r.labels b.labels none) }

  fits_bytes : (l : List ℕ) → Fitting (after (bytes l) r)
  unfolding put_bytes
  fits_bytes l =
      either _ (λ (a : Recorded × List ℕ). Fitting (with_code_table r a.0.buffer a.1)) _ _ (record { namers = namers_of _ refl refl refl refl; labels = f.labels })
      (record { namers = (refused _).namers; labels = (refused _).labels })

  fits_label : Fitting (after new_label r)
  unfolding get_label
  fits_label =
      tested (why_label b (length r.labels / label_size)) 0 (λ (a : Made × List ℕ). Fitting (with_label_table r a.0.buffer a.1)) _ _
      (λ h. label_fits_lem _ refl refl refl refl refl (label_accepted h).fits)
      (refused _)

  fits_bind : (l : Word) → Fitting (after (bind l) r)
  unfolding bind_label
  fits_bind l =
      either _ (λ (a : Recorded × List ℕ). Fitting (with_label_table r a.0.buffer a.1)) _ _
      (record { namers = namers_of _ refl refl refl refl; labels = omega (arith, f.labels, length_set_word r.labels l.value b.code) })
      (record { namers = f.namers; labels = f.labels })

  fits_align : (m most : Word) → Fitting (after (align m most) r)
  unfolding align_to aligned_events set_event
  fits_align m most =
      let k = b.events * event_words in
      let pad = padding_within b.code m.value most.value in
      tested (why_align b (length r.code) (length r.events / event_size) m.value most.value) 0
      (λ (a : Recorded × (List ℕ × List ℕ)). Fitting (with_event_table (with_code_table r a.0.buffer a.1.0) a.0.buffer a.1.1)) _ _
      (λ h.
      whether (keeps_events b.arch)
      (λ (a : CodeBuffer × List ℕ). Fitting (with_event_table (with_code_table r (with_code a.0 (b.code + pad)) (over r.code b.code (padding b.arch pad))) (with_code a.0 (b.code + pad)) a.1)) _ _
      (λ kept.
      let g = align_accepted h in
      events_fit_lem f (b.events + 1) _ _ _ _ (omega (arith, g.event kept, ap length (five_words r.events k alignment_kind b.code pad m.value most.value), length_set_words r.events k (alignment_kind ∷ b.code ∷ pad ∷ m.value ∷ most.value ∷ [])))
      (omega (arith, g.event kept, g.few_events)))
      (record { namers = namers_of _ refl refl refl refl; labels = f.labels }))
      (record { namers = (refused _).namers; labels = (refused _).labels })

  fits_use : (o l c : Word) → Fitting (after (use_of_label o l c) r)
  unfolding use_label
  fits_use o l c =
      let k = b.uses * use_words in
      tested (why_use b (length r.labels / label_size) (length r.uses / use_size) l.value c.value) 0 (λ (a : Recorded × List ℕ). Fitting (with_use_table r a.0.buffer a.1)) _ _
      (λ h.
      let g = use_accepted h in
      uses_fit_lem f (b.uses + 1) _ _ (omega (arith, g.fits, ap length (three_words r.uses k o.value l.value c.value), length_set_words r.uses k (o.value ∷ l.value ∷ c.value ∷ [])))
      (omega (arith, g.fits, g.few)))
      (refused _)

  fits_ref : (o l c d : Word) → Fitting (after (ref o l c d) r)
  unfolding record_ref
  fits_ref o l c d =
      let k = b.refs * ref_words in
      let P : Recorded × List ℕ → Type 0 = λ a. Fitting (with_ref_table r a.0.buffer a.1) in
      tested (why_ref b (length r.labels / label_size) (length r.refs / ref_size) l.value c.value) 0 P _ _
      (λ h.
      whether (keeps_events b.arch) P _ _
      (λ kept.
      let g = ref_accepted h kept in
      refs_fit_lem f (b.refs + 1) _ _ (omega (arith, g.fits, ap length (four_words r.refs k o.value l.value c.value d.value), length_set_words r.refs k (o.value ∷ l.value ∷ c.value ∷ d.value ∷ [])))
      (omega (arith, g.fits, g.few)))
      f)
      (refused _)

  fits_jump : (p n l c : Word) → Fitting (after (jump p n l c) r)
  unfolding record_jump set_event
  fits_jump p n l c =
      let k = b.events * event_words in
      let P : Recorded × List ℕ → Type 0 = λ a. Fitting (with_event_table r a.0.buffer a.1) in
      tested (why_jump b r.labels r.events p.value n.value l.value c.value) 0 P _ _
      (λ h.
      tested b.arch arch_x64 P _ _
      (λ x64.
      let g = jump_accepted h x64 in
      events_fit_lem f (b.events + 1) _ r.code b.code _ (omega (arith, g.fits, ap length (five_words r.events k jump_kind p.value n.value l.value c.value), length_set_words r.events k (jump_kind ∷ p.value ∷ n.value ∷ l.value ∷ c.value ∷ [])))
      (omega (arith, g.fits, g.few)))
      f)
      (refused _)

  fits_constant : (l : List ℕ) → Fitting (after (constant l) r)
  unfolding add_constant
  fits_constant l =
      either _ (λ (a : Made × List ℕ). Fitting (with_constant_table r a.0.buffer a.1)) _ _ (record { namers = namers_of _ refl refl refl refl; labels = f.labels })
      (record { namers = (refused _).namers; labels = (refused _).labels })

  fits_asking : (n : Word) → Fitting (after (label_of_constant n) r)
  unfolding constant_label asked_first
  fits_asking n =
      let asked = length r.asked / asked_size in
      let labels = length r.labels / label_size in
      let P : Made × (List ℕ × (List ℕ × List ℕ)) → Type 0 =
      λ a. Fitting (with_label_table (with_asked_table (with_constant_table r a.0.buffer a.1.0) a.1.1.0) a.0.buffer a.1.1.1) in
      let down : (why : ℕ) → P (none_made b why, (r.constants, (r.asked, r.labels))) = λ why. record { namers = (refused why).namers; labels = (refused why).labels } in
      either _ P _ _
      (either _ P _ _
      (unless (no_room_to_ask b asked labels) P _ _
      (down 11)
      (λ room.
      let x = label_fits_lem (with_labels (with_asked b (b.asked + 1)) (b.labels + 1)) refl refl refl refl refl (leb-false labels b.labels (both_false (leb labels b.labels) (leb asked b.asked) room).0) in
      record { namers = x.namers; labels = x.labels }))
      (record { namers = f.namers; labels = f.labels }))
      (down _)

  fits_reloc : (o k t : Word) (d : Word64) → Fitting (after (relocation o k t d) r)
  unfolding add_reloc
  fits_reloc o k t d =
      let at = b.relocs * reloc_words in
      let low = d.value % 4294967296 in
      let high = d.value / 4294967296 in
      tested (why_reloc b (length r.labels / label_size) (length r.relocs / reloc_size) o.value k.value t.value) 0 (λ (a : Recorded × List ℕ). Fitting (with_reloc_table r a.0.buffer a.1)) _ _
      (λ h.
      let g = reloc_accepted h in
      relocs_fit_lem f (b.relocs + 1) _ _ (omega (arith, g.fits, ap length (six_words r.relocs at o.value k.value t.value 0 low high), length_set_words r.relocs at (o.value ∷ k.value ∷ t.value ∷ 0 ∷ low ∷ high ∷ [])))
      (omega (arith, g.fits, g.few)))
      (refused _)

-- Every call keeps it so.
pub call_fits : (c : Call) (r : Recording) → Fitting r → Fitting (after c r)
call_fits (bytes l) r f = fits_bytes r f l
call_fits new_label r f = fits_label r f
call_fits (bind l) r f = fits_bind r f l
call_fits (align m most) r f = fits_align r f m most
call_fits (use_of_label o l c) r f = fits_use r f o l c
call_fits (ref o l c d) r f = fits_ref r f o l c d
call_fits (jump p n l c) r f = fits_jump r f p n l c
call_fits (constant l) r f = fits_constant r f l
call_fits (label_of_constant n) r f = fits_asking r f n
call_fits (relocation o k t d) r f = fits_reloc r f o k t d
