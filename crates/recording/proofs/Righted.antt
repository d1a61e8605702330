-- Calls do not mind how many entries are said to be open, up to the limit: so a sheet may count them once, after its calls.
use mathlib.Core.Path.{◌≡◌, refl, sym, ap, ◌∙◌, subst}
use mathlib.Core.Bool.{Bool, true, false, ◌&&◌}
use mathlib.Core.List.{List}
use Prim.Native.Nat.{ℕ, ◌+◌, ◌*◌, ◌/◌, ◌≤◌, ◌<◌}
use borrow.Author.Tests.{le-leb}
use lib.Dec.{eqb, leb, ltb}
use lib.ListN.{length}
use Rattle.seqs.specs.Pick.{pick}
use Rattle.seqs.specs.Over.{over}
use Rattle.encoder.specs.Padding.{padding_within}
use Rattle.fields.specs.Kinds.{last_code, arch_x64}
use Rattle.words.specs.Words.{word_at}
use Rattle.relax.specs.Events.{event_size}
use Rattle.buffer.specs.declared.CodeBuffer.{CodeBuffer}
use Rattle.buffer.specs.State.{Recorded, Made, keeps_events, with_code, with_open, refusing, turned_down, none_made, made, none}
use Rattle.buffer.specs.Tables.{most_entries, most_code, most_open, last_reloc, label_size, use_size, ref_size, constant_words, constant_size, asked_size, reloc_size}
use Rattle.buffer.specs.Refusals.{standing, namers_fit, namers_within, jump_unfit, target_known, why_bytes, why_label, why_bind, why_align, why_use, why_ref, why_jump, why_constant, why_constant_label, no_room_to_ask, why_reloc}
use Rattle.buffer.specs.Calls.{padding, put_bytes, get_label, bind_label, aligned_events, align_to, use_label, record_ref, record_jump, add_constant, asked_first, constant_label, add_reloc}
use Rattle.recording.specs.Calls.{Recording, Word, Word64, Call, bytes, new_label, bind, align, use_of_label, ref, jump, constant, label_of_constant, relocation, with_buffer, with_code_table, with_label_table, with_event_table, with_use_table, with_ref_table, with_constant_table, with_asked_table, with_reloc_table, after, answered}
use Rattle.recording.specs.View.{view}
use Rattle.recording.specs.Open.{naming, open_of}
use Rattle.recording.specs.steps.Righted.{with_number, righted}
use Rattle.recording.proofs.Open.{call_right}

-- two answers of one test
together : {A : Type 0} (t : Bool) (P : A → A → Type 0) (x y u v : A) → P x u → P y v → P (pick t x y) (pick t u v)
unfolding pick
together true P x y u v p q = p
together false P x y u v p q = q

-- two calls that are turned down for the same reason, or for none
decided : {A : Type 0} (P : A → A → Type 0) {why other : ℕ} → other ≡ why → (x u : A) (y v : ℕ → A) → P x u → ((n : ℕ) → P (y n) (v n))
    → P (pick (eqb other 0) x (y other)) (pick (eqb why 0) u (v why))
decided P {why} e x u y v p q = subst (λ (n : ℕ). P (pick (eqb n 0) x (y n)) (pick (eqb why 0) u (v why))) (sym e) (together (eqb why 0) P x (y why) u (v why) p (q why))

-- the answer is the same, and so is what is left, but for the number
record Apart (c : Call) (r : Recording) (n : ℕ) : Type 0 where
  answer : answered c (with_number r n) ≡ answered c r
  rest : (k : ℕ) → with_number (after c (with_number r n)) k ≡ with_number (after c r) k

apart_by : {c : Call} {r : Recording} {n : ℕ}
    → (answered c (with_number r n) ≡ answered c r) × ((k : ℕ) → with_number (after c (with_number r n)) k ≡ with_number (after c r) k) → Apart c r n
apart_by p = record { answer = p.0; rest = p.1 }

module _ (r : Recording) (n : ℕ) (few : n ≤ most_open) (few-before : r.buffer.unresolved ≤ most_open) where
  abbrev b : CodeBuffer
  b = r.buffer

  abbrev other : CodeBuffer
  other = with_open r.buffer n

  -- no call is turned down for either number
  stood : (fit within : Bool) → standing other fit within ≡ standing b fit within
  unfolding standing
  stood fit within = rw (le-leb n most_open few, le-leb b.unresolved most_open few-before)

  refusing_same : (why k : ℕ) → with_open (refusing other why) k ≡ with_open (refusing b why) k
  unfolding refusing
  refusing_same why k = together (ltb why 6) (λ (x y : CodeBuffer). with_open x k ≡ with_open y k) _ _ _ _ refl refl

  -- a recording with such counts
  left_same : (why k : ℕ) → with_buffer r (with_open (refusing other why) k) ≡ with_buffer r (with_open (refusing b why) k)
  left_same why k = ap (with_buffer r) (refusing_same why k)

  -- two answers of a call that leaves a table, and of one that makes a number
  abbrev Recorded·same : (CodeBuffer → List ℕ → Recording) → Recorded × List ℕ → Recorded × List ℕ → Type 0
  Recorded·same left x y = (x.0.refusal ≡ y.0.refusal) × ((k : ℕ) → with_number (left x.0.buffer x.1) k ≡ with_number (left y.0.buffer y.1) k)

  abbrev Made·same : (CodeBuffer → List ℕ → Recording) → Made × List ℕ → Made × List ℕ → Type 0
  Made·same left x y = (x.0.refusal ≡ y.0.refusal) × ((k : ℕ) → with_number (left x.0.buffer x.1) k ≡ with_number (left y.0.buffer y.1) k)

  bytes_why : (lent m : ℕ) → why_bytes other lent m ≡ why_bytes b lent m
  unfolding why_bytes
  bytes_why lent m = rw (stood (leb b.code lent) (leb lent most_code))

  apart_bytes : (l : List ℕ) → Apart (bytes l) r n
  unfolding put_bytes
  apart_bytes l =
      apart_by
      (decided (Recorded·same (with_code_table r)) (bytes_why (length r.code) (length l)) _ _
      (λ (m : ℕ). (turned_down other m, r.code)) (λ (m : ℕ). (turned_down b m, r.code))
      (refl, λ k. refl) (λ m. (refl, left_same m)))

  label_why : (room : ℕ) → why_label other room ≡ why_label b room
  unfolding why_label
  label_why room = rw (stood (leb b.labels room) (leb room most_entries))

  apart_label : Apart new_label r n
  unfolding get_label
  apart_label =
      apart_by
      (decided (Made·same (with_label_table r)) (label_why (length r.labels / label_size)) _ _
      (λ (m : ℕ). (none_made other m, r.labels)) (λ (m : ℕ). (none_made b m, r.labels))
      (refl, λ k. refl) (λ m. (refl, left_same m)))

  bind_why : (labels : List ℕ) (events uses refs relocs l : ℕ) → why_bind other labels events uses refs relocs l ≡ why_bind b labels events uses refs relocs l
  unfolding why_bind
  bind_why labels events uses refs relocs l =
      rw (stood (leb b.labels (length labels / label_size) && namers_fit b events uses refs relocs) (leb (length labels / label_size) most_entries && namers_within events uses refs relocs))

  apart_bind : (l : Word) → Apart (bind l) r n
  unfolding bind_label
  apart_bind l =
      apart_by
      (decided (Recorded·same (with_label_table r))
      (bind_why r.labels (length r.events / event_size) (length r.uses / use_size) (length r.refs / ref_size) (length r.relocs / reloc_size) l.value) _ _
      (λ (m : ℕ). (record { buffer = other; refusal = m }, r.labels)) (λ (m : ℕ). (record { buffer = b; refusal = m }, r.labels))
      (refl, λ k. refl) (λ m. (refl, λ k. refl)))

  align_why : (lent room multiple most : ℕ) → why_align other lent room multiple most ≡ why_align b lent room multiple most
  unfolding why_align
  align_why lent room multiple most = rw (stood (leb b.code lent && leb b.events room) (leb lent most_code && leb room most_entries))

  -- an alignment's event, beside the counts
  abbrev numbered : ℕ → CodeBuffer × List ℕ → CodeBuffer × List ℕ
  numbered k x = (with_open x.0 k, x.1)

  event_same : (m most k : ℕ) → numbered k (aligned_events other r.events m most) ≡ numbered k (aligned_events b r.events m most)
  unfolding aligned_events
  event_same m most k = together (keeps_events b.arch) (λ (x y : CodeBuffer × List ℕ). numbered k x ≡ numbered k y) _ _ _ _ refl refl

  apart_align : (m most : Word) → Apart (align m most) r n
  unfolding align_to
  apart_align m most =
      let pad = padding_within b.code m.value most.value in
      let code = over r.code b.code (padding b.arch pad) in
      apart_by
      (decided
      (λ (x y : Recorded × (List ℕ × List ℕ)).
      (x.0.refusal ≡ y.0.refusal)
      × ((k : ℕ) → with_number (with_event_table (with_code_table r x.0.buffer x.1.0) x.0.buffer x.1.1) k ≡ with_number (with_event_table (with_code_table r y.0.buffer y.1.0) y.0.buffer y.1.1) k))
      (align_why (length r.code) (length r.events / event_size) m.value most.value) _ _
      (λ (i : ℕ). (turned_down other i, (r.code, r.events))) (λ (i : ℕ). (turned_down b i, (r.code, r.events))) (
        refl,
        λ k.
            ap
            (λ (x : CodeBuffer × List ℕ).
            with_event_table (with_code_table r (with_code x.0 (b.code + pad)) code) (with_code x.0 (b.code + pad)) x.1)
            (event_same m.value most.value k),
      )
      (λ i. (refl, left_same i)))

  use_why : (known room l c : ℕ) → why_use other known room l c ≡ why_use b known room l c
  unfolding why_use
  use_why known room l c = rw (stood (leb b.labels known && (leb b.uses room && leb c last_code)) (leb known most_entries && leb room most_entries))

  apart_use : (o l c : Word) → Apart (use_of_label o l c) r n
  unfolding use_label
  apart_use o l c =
      apart_by
      (decided (Recorded·same (with_use_table r)) (use_why (length r.labels / label_size) (length r.uses / use_size) l.value c.value) _ _
      (λ (m : ℕ). (turned_down other m, r.uses)) (λ (m : ℕ). (turned_down b m, r.uses))
      (refl, λ k. refl) (λ m. (refl, left_same m)))

  ref_why : (known room l c : ℕ) → why_ref other known room l c ≡ why_ref b known room l c
  unfolding why_ref
  ref_why known room l c = rw (stood (leb b.labels known && (leb b.refs room && leb c last_code)) (leb known most_entries && leb room most_entries))

  apart_ref : (o l c d : Word) → Apart (ref o l c d) r n
  unfolding record_ref
  apart_ref o l c d =
      apart_by
      (decided (Recorded·same (with_ref_table r)) (ref_why (length r.labels / label_size) (length r.refs / ref_size) l.value c.value) _ _
      (λ (m : ℕ). (turned_down other m, r.refs)) (λ (m : ℕ). (turned_down b m, r.refs))
      (together (keeps_events b.arch) (Recorded·same (with_ref_table r)) _ _ _ _ (refl, λ k. refl) (refl, λ k. refl))
      (λ m. (refl, left_same m)))

  jump_why : (labels events : List ℕ) (start len l c : ℕ) → why_jump other labels events start len l c ≡ why_jump b labels events start len l c
  unfolding why_jump jump_unfit
  jump_why labels events start len l c =
      rw (stood (leb b.labels (length labels / label_size) && leb b.events (length events / event_size)) (leb (length labels / label_size) most_entries && leb (length events / event_size) most_entries))

  apart_jump : (p m l c : Word) → Apart (jump p m l c) r n
  unfolding record_jump
  apart_jump p m l c =
      apart_by
      (decided (Recorded·same (with_event_table r)) (jump_why r.labels r.events p.value m.value l.value c.value) _ _
      (λ (i : ℕ). (turned_down other i, r.events)) (λ (i : ℕ). (turned_down b i, r.events))
      (together (eqb b.arch arch_x64) (Recorded·same (with_event_table r)) _ _ _ _ (refl, λ k. refl) (refl, λ k. refl))
      (λ i. (refl, left_same i)))

  constant_why : (room m : ℕ) → why_constant other room m ≡ why_constant b room m
  unfolding why_constant
  constant_why room m = rw (stood (leb b.constants room) (leb room most_entries))

  apart_constant : (l : List ℕ) → Apart (constant l) r n
  unfolding add_constant
  apart_constant l =
      apart_by
      (decided (Made·same (with_constant_table r)) (constant_why (length r.constants / constant_size) (length l)) _ _
      (λ (m : ℕ). (none_made other m, r.constants)) (λ (m : ℕ). (none_made b m, r.constants))
      (refl, λ k. refl) (λ m. (refl, left_same m)))

  asking_why : (constants asked labels c : ℕ) → why_constant_label other constants asked labels c ≡ why_constant_label b constants asked labels c
  unfolding why_constant_label
  asking_why constants asked labels c =
      rw (stood (leb b.constants constants && (leb b.asked asked && leb b.labels labels)) (leb constants most_entries && (leb asked most_entries && leb labels most_entries)))

  abbrev Asked : Type 0
  Asked = Made × (List ℕ × (List ℕ × List ℕ))

  abbrev asked_left : Asked → Recording
  asked_left a = with_label_table (with_asked_table (with_constant_table r a.0.buffer a.1.0) a.1.1.0) a.0.buffer a.1.1.1

  abbrev Asked·same : Asked → Asked → Type 0
  Asked·same x y = (x.0.refusal ≡ y.0.refusal) × ((k : ℕ) → with_number (asked_left x) k ≡ with_number (asked_left y) k)

  first_same : (c : ℕ) → Asked·same (asked_first other r.constants r.asked r.labels c) (asked_first b r.constants r.asked r.labels c)
  unfolding asked_first
  first_same c = together (no_room_to_ask b (length r.asked / asked_size) (length r.labels / label_size)) Asked·same _ _ _ _ (refl, left_same 11) (refl, λ k. refl)

  abbrev tables : List ℕ × (List ℕ × List ℕ)
  tables = (r.constants, (r.asked, r.labels))

  apart_asking : (c : Word) → Apart (label_of_constant c) r n
  unfolding constant_label
  apart_asking c =
      let held = word_at r.constants (c.value * constant_words + 1) in
      apart_by {c = label_of_constant c} {r = r} {n = n}
      (decided Asked·same (asking_why (length r.constants / constant_size) (length r.asked / asked_size) (length r.labels / label_size) c.value) _ _
      (λ (m : ℕ). (none_made other m, tables)) (λ (m : ℕ). (none_made b m, tables))
      (together (eqb held none) Asked·same (asked_first other r.constants r.asked r.labels c.value) (made other held, tables) (asked_first b r.constants r.asked r.labels c.value) (made b held, tables)
      (first_same c.value) (refl, λ k. refl))
      (λ m. (refl, left_same m)))

  reloc_why : (known room o k t : ℕ) → why_reloc other known room o k t ≡ why_reloc b known room o k t
  unfolding why_reloc target_known
  reloc_why known room o k t = rw (stood (leb b.labels known && (leb b.relocs room && leb k last_reloc)) (leb known most_entries && leb room most_entries))

  apart_reloc : (o k t : Word) (d : Word64) → Apart (relocation o k t d) r n
  unfolding add_reloc
  apart_reloc o k t d =
      apart_by
      (decided (Recorded·same (with_reloc_table r)) (reloc_why (length r.labels / label_size) (length r.relocs / reloc_size) o.value k.value t.value) _ _
      (λ (m : ℕ). (turned_down other m, r.relocs)) (λ (m : ℕ). (turned_down b m, r.relocs))
      (refl, λ i. refl) (λ m. (refl, left_same m)))

  apart : (c : Call) → Apart c r n
  apart (bytes l) = apart_bytes l
  apart new_label = apart_label
  apart (bind l) = apart_bind l
  apart (align m most) = apart_align m most
  apart (use_of_label o l c) = apart_use o l c
  apart (ref o l c d) = apart_ref o l c d
  apart (jump p m l c) = apart_jump p m l c
  apart (constant l) = apart_constant l
  apart (label_of_constant c) = apart_asking c
  apart (relocation o k t d) = apart_reloc o k t d

-- A call on a recording with the right number answers as on one with any other, and leaves what that leaves, with the right number.
pub call_righted : (c : Call) (r : Recording) → r.buffer.code < 4294967296 → r.buffer.unresolved ≤ most_open → open_of (view r) ≤ most_open
    → (answered c (righted r) ≡ answered c r) × (after c (righted r) ≡ righted (after c r))
unfolding naming
call_righted c r small few right-few =
    let a = apart r (open_of (view r)) right-few few c in (
      a.answer,
      ap (with_number (after c (righted r))) (call_right c (righted r) small refl)
          ∙ a.rest (open_of (view (after c (righted r))))
          ∙ ap (λ (s : Recording). with_number (after c r) (open_of (view s))) (a.rest 0),
    )
