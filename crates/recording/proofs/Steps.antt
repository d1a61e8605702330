-- Each call keeps a recording sound.
use mathlib.Core.Path.{◌≡◌, refl}
use mathlib.Core.Bool.{Bool, true, false}
use mathlib.Core.Logic.{inl, inr, ⊎_elim}
use mathlib.Core.List.{List, [], ◌∷◌}
use Prim.Native.Nat.{ℕ, ◌+◌, ◌*◌, ◌/◌, ◌%◌, ◌≤◌}
use native.Mathlib.Omega.{arith}
use borrow.Author.Tests.{eqb-true, leb-false}
use native.Mathlib.Nat.{le_refl}
use lib.Dec.{eqb, leb, ltb}
use lib.ListN.{length}
use Rattle.seqs.specs.Pick.{pick}
use Rattle.seqs.specs.Over.{over}
use Rattle.seqs.proofs.Booleans.{both_false}
use Rattle.seqs.proofs.Overwrites.{length_over}
use Rattle.words.specs.Words.{word_at}
use Rattle.encoder.specs.Padding.{padding_within}
use Rattle.relax.specs.Events.{set_event, event_words, event_size}
use Rattle.words.proofs.Entries.{three_words, four_words, five_words, six_words}
use Rattle.buffer.specs.declared.CodeBuffer.{CodeBuffer}
use Rattle.buffer.specs.State.{Recorded, Made, none, keeps_events, with_refusal, with_code, refusing}
use Rattle.buffer.specs.Refusals.{no_room_to_ask, why_bytes, why_label, why_bind, why_align, why_use, why_ref, why_jump, why_constant, why_constant_label, why_reloc}
use Rattle.buffer.specs.Calls.{put_bytes, get_label, bind_label, aligned_events, align_to, use_label, record_ref, record_jump, padding, add_constant, asked_first, constant_label, add_reloc}
use Rattle.recording.specs.Calls.{Recording, Word, Word64, bytes, new_label, bind, align, use_of_label, ref, jump, constant, label_of_constant, relocation, with_buffer, with_code_table, with_label_table, with_event_table, with_use_table, with_ref_table, with_constant_table, with_asked_table, with_reloc_table, after}
use Rattle.recording.specs.Sound.{CodeSound, Sound}
use Rattle.recording.proofs.Growth.{more_labels_events, more_labels_uses, more_labels_refs, more_labels_constants, more_labels_relocs, more_code_labels, more_code_events}
use Rattle.recording.proofs.Tables.{appended, appended_before, append_label, bind_label_lem, append_use, append_ref, append_reloc, append_event, labels_beside_event, ends_by_last}
use Rattle.recording.proofs.Constants.{append_constant, asked_before_constant, label_constant, ask}
use Rattle.recording.proofs.Tables.{known_target}
use Rattle.buffer.proofs.Keeping.{x64_keeps}
use Rattle.buffer.proofs.Accepted.{label_accepted, bind_accepted, bytes_accepted, align_accepted, use_accepted, ref_accepted, jump_accepted, constant_accepted, constant_label_accepted, reloc_accepted}
use Rattle.buffer.specs.Tables.{label_size, use_words, use_size, ref_size, constant_words, constant_size, constant_head, asked_size, reloc_words, reloc_size}

-- either way
pub either : {A : Type 0} (t : Bool) (P : A → Type 0) (x y : A) → P x → P y → P (pick t x y)
unfolding pick
either true P x y p q = p
either false P x y p q = q

-- a test on numbers, and what it shows where it holds
pub tested : {A : Type 0} (m n : ℕ) (P : A → Type 0) (x y : A) → (m ≡ n → P x) → P y → P (pick (eqb m n) x y)
unfolding pick
tested m n P x y held other = by (eqb m n) refl
  where
    by : (t : Bool) → eqb m n ≡ t → P (pick t x y)
    by true e = held (eqb-true m n e)
    by false e = other

-- a test, and what it shows where it holds
pub whether : {A : Type 0} (t : Bool) (P : A → Type 0) (x y : A) → (t ≡ true → P x) → P y → P (pick t x y)
unfolding pick
whether true P x y held other = held refl
whether false P x y held other = other

-- a test that turns down, and what it shows where it does not
pub unless : {A : Type 0} (t : Bool) (P : A → Type 0) (x y : A) → P x → (t ≡ false → P y) → P (pick t x y)
unfolding pick
unless true P x y p q = p
unless false P x y p q = q refl

-- a call that is turned down leaves all but the first refusal
refused : (r : Recording) → Sound r → (why : ℕ) → Sound (with_buffer r (refusing r.buffer why))
unfolding refusing
refused r s why =
    either (ltb why 6) (λ (b : CodeBuffer). Sound (with_buffer r b)) r.buffer (with_refusal r.buffer why) s
    (record {
      code = s.code;
      labels = s.labels;
      events = s.events;
      uses = s.uses;
      refs = s.refs;
      constants = s.constants;
      asked = s.asked;
      relocs = s.relocs;
    })

pub keeps_new_label : (r : Recording) → Sound r → Sound (after new_label r)
unfolding get_label
keeps_new_label r s =
    let b = r.buffer in
    let why = why_label b (length r.labels / label_size) in
    tested why 0 (λ (a : Made × List ℕ). Sound (with_label_table r a.0.buffer a.1)) _ _
    (λ h.
    let f = label_accepted h in
    let fits = f.fits in
    let n = b.labels in
    let more : n ≤ n + 1 = omega arith in
    record {
      code = s.code;
      labels = append_label r.labels _ n r.events b.events b.code (appended r.labels _ n (none ∷ []) refl (omega arith) (omega arith, tt)) f.fits f.few s.labels;
      events = more_labels_events n (n + 1) more r.events b.events b.code b.arch s.events;
      uses = more_labels_uses n (n + 1) more r.uses b.uses b.arch s.uses;
      refs = more_labels_refs n (n + 1) more r.refs b.refs b.arch s.refs;
      constants = more_labels_constants n (n + 1) more r.constants b.constants s.constants;
      asked = s.asked;
      relocs = more_labels_relocs n (n + 1) more r.relocs b.relocs b.arch b.symbols s.relocs;
    })
    (refused r s why)

pub keeps_bind : (r : Recording) (l : Word) → Sound r → Sound (after (bind l) r)
unfolding bind_label
keeps_bind r l s =
    let b = r.buffer in
    let why = why_bind b r.labels (length r.events / event_size) (length r.uses / use_size) (length r.refs / ref_size) (length r.relocs / reloc_size) l.value in
    tested why 0 (λ (a : Recorded × List ℕ). Sound (with_label_table r a.0.buffer a.1)) _ _
    (λ h.
    let f = bind_accepted h in
    record {
      code = s.code;
      labels = bind_label_lem r.labels b.labels r.events b.events b.labels b.code b.arch l.value f.known f.room s.code.limit s.events s.labels;
      events = s.events;
      uses = s.uses;
      refs = s.refs;
      constants = s.constants;
      asked = s.asked;
      relocs = s.relocs;
    })
    s

pub keeps_bytes : (r : Recording) (l : List ℕ) → Sound r → Sound (after (bytes l) r)
unfolding put_bytes
keeps_bytes r l s =
    let b = r.buffer in
    let why = why_bytes b (length r.code) (length l) in
    let more : b.code ≤ b.code + length l = omega arith in
    tested why 0 (λ (a : Recorded × List ℕ). Sound (with_code_table r a.0.buffer a.1)) _ _
    (λ h.
    let f = bytes_accepted h in
    record {
      code = record { room = rw (length_over r.code b.code l) f.room; limit = omega (arith, f.room, f.few) };
      labels = more_code_labels r.labels b.labels r.events b.events b.code (b.code + length l) more s.labels;
      events = more_code_events r.events b.events b.labels b.code (b.code + length l) b.arch more s.events;
      uses = s.uses;
      refs = s.refs;
      constants = s.constants;
      asked = s.asked;
      relocs = s.relocs;
    })
    (refused r s why)

pub keeps_use : (r : Recording) (o l c : Word) → Sound r → Sound (after (use_of_label o l c) r)
unfolding use_label
keeps_use r o l c s =
    let b = r.buffer in
    let k = b.uses * use_words in
    let why = why_use b (length r.labels / label_size) (length r.uses / use_size) l.value c.value in
    tested why 0 (λ (a : Recorded × List ℕ). Sound (with_use_table r a.0.buffer a.1)) _ _
    (λ h.
    let f = use_accepted h in
    let fits = f.fits in
    let a =
    appended r.uses _ k (o.value ∷ l.value ∷ c.value ∷ []) (three_words r.uses k o.value l.value c.value) (omega arith)
    (o.small, (l.small, (c.small, tt))) in
    record {
      code = s.code;
      labels = s.labels;
      events = s.events;
      uses = append_use r.uses _ b.uses b.arch b.labels o.value l.value c.value a fits f.form f.patched f.native f.known s.uses;
      refs = s.refs;
      constants = s.constants;
      asked = s.asked;
      relocs = s.relocs;
    })
    (refused r s why)

pub keeps_ref : (r : Recording) (o l c d : Word) → Sound r → Sound (after (ref o l c d) r)
unfolding record_ref
keeps_ref r o l c d s =
    let b = r.buffer in
    let k = b.refs * 4 in
    let why = why_ref b (length r.labels / label_size) (length r.refs / ref_size) l.value c.value in
    let P : Recorded × List ℕ → Type 0 = λ a. Sound (with_ref_table r a.0.buffer a.1) in
    tested why 0 P _ _
    (λ h.
    whether (keeps_events b.arch) P _ _
    (λ kept.
    let f = ref_accepted h kept in
    let fits = f.fits in
    let a =
    appended r.refs _ k (o.value ∷ l.value ∷ c.value ∷ d.value ∷ []) (four_words r.refs k o.value l.value c.value d.value) (omega arith)
    (o.small, (l.small, (c.small, (d.small, tt)))) in
    record {
      code = s.code;
      labels = s.labels;
      events = s.events;
      uses = s.uses;
      refs = append_ref r.refs _ b.refs b.arch b.labels o.value l.value c.value d.value a fits kept f.native f.known s.refs;
      constants = s.constants;
      asked = s.asked;
      relocs = s.relocs;
    })
    s)
    (refused r s why)

pub keeps_reloc : (r : Recording) (o k t : Word) (d : Word64) → Sound r → Sound (after (relocation o k t d) r)
unfolding add_reloc
keeps_reloc r o k t d s =
    let b = r.buffer in
    let at = b.relocs * reloc_words in
    let low = d.value % 4294967296 in
    let high = d.value / 4294967296 in
    let why = why_reloc b (length r.labels / label_size) (length r.relocs / reloc_size) o.value k.value t.value in
    let P : Recorded × List ℕ → Type 0 = λ a. Sound (with_reloc_table r a.0.buffer a.1) in
    tested why 0 P _ _
    (λ h.
    let f = reloc_accepted h in
    let fits = f.fits in
    let wide = d.small in
    let a =
    appended r.relocs _ at (o.value ∷ k.value ∷ t.value ∷ 0 ∷ low ∷ high ∷ [])
    (six_words r.relocs at o.value k.value t.value 0 low high) (omega arith)
    (o.small, (k.small, (t.small, (omega arith, (omega arith, (omega arith, tt)))))) in
    record {
      code = s.code;
      labels = s.labels;
      events = s.events;
      uses = s.uses;
      refs = s.refs;
      constants = s.constants;
      asked = s.asked;
      relocs =
          append_reloc r.relocs _ b.relocs b.arch b.labels b.symbols o.value k.value t.value low high a fits f.near f.form f.native (known_target b t.value f.known)
          s.relocs;
    })
    (refused r s why)

pub keeps_constant : (r : Recording) (l : List ℕ) → Sound r → Sound (after (constant l) r)
unfolding add_constant
keeps_constant r l s =
    let b = r.buffer in
    let n = b.constants in
    let why = why_constant b (length r.constants / constant_size) (length l) in
    let P : Made × List ℕ → Type 0 = λ a. Sound (with_constant_table r a.0.buffer a.1) in
    tested why 0 P _ _
    (λ h.
    let f = constant_accepted h in
    let fits = f.fits in
    let small = f.small in
    let a =
    appended_before r.constants _ (n * constant_words) (length l ∷ none ∷ []) l (n * constant_size + constant_head) (omega arith)
    (appended r.constants _ (n * constant_words) (length l ∷ none ∷ []) refl (omega arith) (omega arith, (omega arith, tt))) in
    record {
      code = s.code;
      labels = s.labels;
      events = s.events;
      uses = s.uses;
      refs = s.refs;
      constants = append_constant r.constants _ n (length l) a b.labels fits f.few small s.constants;
      asked = asked_before_constant r.constants _ n (length l) a r.asked b.asked s.asked;
      relocs = s.relocs;
    })
    (refused r s why)

pub keeps_jump : (r : Recording) (p n l c : Word) → Sound r → Sound (after (jump p n l c) r)
unfolding record_jump set_event
keeps_jump r p n l c s =
    let b = r.buffer in
    let k = b.events * event_words in
    let start = p.value in
    let len = n.value in
    let why = why_jump b r.labels r.events start len l.value c.value in
    let P : Recorded × List ℕ → Type 0 = λ a. Sound (with_event_table r a.0.buffer a.1) in
    tested why 0 P _ _
    (λ h.
    tested b.arch 2 P _ _
    (λ x64.
    let f = jump_accepted h x64 in
    let fits = f.fits in
    let last = f.follows in
    let ends = f.ends in
    let a =
    appended r.events _ k (1 ∷ start ∷ len ∷ l.value ∷ c.value ∷ []) (five_words r.events k 1 start len l.value c.value) (omega arith)
    (omega arith, (p.small, (n.small, (l.small, (c.small, tt))))) in
    record {
      code = s.code;
      labels =
          labels_beside_event r.events _ b.events 1 start len l.value c.value a r.labels b.labels b.code b.code (omega arith)
          (λ i h. inr (f.outside i h)) s.labels;
      events =
          append_event r.events _ b.events 1 start len l.value c.value a b.labels b.code b.code b.arch fits (x64_keeps b.arch x64)
          (inl (refl, f.long, f.short, f.known, f.form)) (omega arith) (omega arith)
          (λ i h. let e = ends_by_last r.events b.events b.labels b.code b.arch s.events i h in omega arith)
          s.events;
      uses = s.uses;
      refs = s.refs;
      constants = s.constants;
      asked = s.asked;
      relocs = s.relocs;
    })
    s)
    (refused r s why)

pub keeps_align : (r : Recording) (m most : Word) → Sound r → Sound (after (align m most) r)
unfolding align_to aligned_events set_event
keeps_align r m most s =
    let b = r.buffer in
    let k = b.events * event_words in
    let pad = padding_within b.code m.value most.value in
    let why = why_align b (length r.code) (length r.events / event_size) m.value most.value in
    let more : b.code ≤ b.code + pad = omega arith in
    tested why 0
    (λ (a : Recorded × (List ℕ × List ℕ)). Sound (with_event_table (with_code_table r a.0.buffer a.1.0) a.0.buffer a.1.1)) _ _
    (λ h.
    let f = align_accepted h in
    let fits = f.fits in
    let few = f.few in
    let code = over r.code b.code (padding b.arch pad) in
    let grown : CodeSound code (b.code + pad) = record { room = rw (length_over r.code b.code (padding b.arch pad)) fits; limit = omega arith } in
    whether (keeps_events b.arch)
    (λ (e : CodeBuffer × List ℕ). Sound (with_event_table (with_code_table r (with_code e.0 (b.code + pad)) code) (with_code e.0 (b.code + pad)) e.1)) _ _
    (λ kept.
    let room = f.event kept in
    let a =
    appended r.events _ k (2 ∷ b.code ∷ pad ∷ m.value ∷ most.value ∷ []) (five_words r.events k 2 b.code pad m.value most.value) (omega arith)
    (omega arith, (omega arith, (omega arith, (m.small, (most.small, tt))))) in
    record {
      code = grown;
      labels =
          labels_beside_event r.events _ b.events 2 b.code pad m.value most.value a r.labels b.labels b.code (b.code + pad) more
          (λ i h. ⊎_elim (λ u. inl u) (λ bound. inr (inl bound.0)) (s.labels.entry i h)) s.labels;
      events =
          append_event r.events _ b.events 2 b.code pad m.value most.value a b.labels b.code (b.code + pad) b.arch room kept
          (inr (refl, f.aligned, refl)) (le_refl _) more
          (λ i h. (s.events.entry i h).ends)
          s.events;
      uses = s.uses;
      refs = s.refs;
      constants = s.constants;
      asked = s.asked;
      relocs = s.relocs;
    })
    (record {
      code = grown;
      labels = more_code_labels r.labels b.labels r.events b.events b.code (b.code + pad) more s.labels;
      events = more_code_events r.events b.events b.labels b.code (b.code + pad) b.arch more s.events;
      uses = s.uses;
      refs = s.refs;
      constants = s.constants;
      asked = s.asked;
      relocs = s.relocs;
    }))
    (refused r s why)

pub keeps_constant_label : (r : Recording) (n : Word) → Sound r → Sound (after (label_of_constant n) r)
unfolding constant_label asked_first
keeps_constant_label r n s =
    let b = r.buffer in
    let c = n.value in
    let held = word_at r.constants (c * constant_words + 1) in
    let why = why_constant_label b (length r.constants / constant_size) (length r.asked / asked_size) (length r.labels / label_size) c in
    let labels = b.labels in
    let more : labels ≤ labels + 1 = omega arith in
    let P : Made × (List ℕ × (List ℕ × List ℕ)) → Type 0 =
    λ a. Sound (with_label_table (with_asked_table (with_constant_table r a.0.buffer a.1.0) a.1.1.0) a.0.buffer a.1.1.1) in
    tested why 0 P _ _
    (λ h.
    let f = constant_label_accepted h in
    let few = f.few in
    tested held none P _ _
    (λ unlabelled.
    unless (no_room_to_ask b (length r.asked / asked_size) (length r.labels / label_size)) P _ _
    (refused r s 11)
    (λ room.
    let rooms = both_false (leb (length r.labels / label_size) labels) (leb (length r.asked / asked_size) b.asked) room in
    let label_room = leb-false (length r.labels / label_size) labels rooms.0 in
    let asked_room = leb-false (length r.asked / asked_size) b.asked rooms.1 in
    let limit = s.labels.limit in
    record {
      code = s.code;
      labels =
          append_label r.labels _ labels r.events b.events b.code (appended r.labels _ labels (none ∷ []) refl (omega arith) (omega arith, tt)) label_room few
          s.labels;
      events = more_labels_events labels (labels + 1) more r.events b.events b.code b.arch s.events;
      uses = more_labels_uses labels (labels + 1) more r.uses b.uses b.arch s.uses;
      refs = more_labels_refs labels (labels + 1) more r.refs b.refs b.arch s.refs;
      constants = label_constant r.constants b.constants labels c f.known f.room limit unlabelled s.constants;
      asked = ask r.constants b.constants labels c f.known f.room limit unlabelled r.asked b.asked asked_room s.constants s.asked;
      relocs = more_labels_relocs labels (labels + 1) more r.relocs b.relocs b.arch b.symbols s.relocs;
    }))
    s)
    (refused r s why)
