-- The number of open entries that a recording keeps: every call changes it by what the tables say.
use mathlib.Core.Path.{◌≡◌, refl, sym, ap, ◌∙◌, subst}
use mathlib.Core.Logic.{⊎_elim}
use mathlib.Core.Bool.{true}
use mathlib.Core.List.{List, [], ◌∷◌}
use Prim.Native.Nat.{ℕ, ◌+◌, ◌-◌, ◌/◌, ◌<◌}
use native.Mathlib.Omega.{arith}
use borrow.Author.Tests.{leb-false}
use lib.Dec.{eqb, leb, ltb}
use lib.ListN.{length, set}
use Rattle.seqs.specs.Counting.{one, count}
use Rattle.seqs.specs.Pick.{pick}
use Rattle.seqs.proofs.Booleans.{both_false}
use Rattle.seqs.proofs.Numbers.{eq_or_ne}
use Rattle.seqs.proofs.Picking.{pick_yes, pick_no, yes_eq, no_eq}
use Rattle.words.specs.Words.{word_at, set_word}
use Rattle.encoder.specs.Padding.{padding_within}
use Rattle.relax.specs.Events.{event_of, event_size, jump_kind, alignment_kind}
use Rattle.buffer.specs.declared.CodeBuffer.{CodeBuffer}
use Rattle.buffer.specs.State.{Recorded, Made, none, keeps_events, with_refusal, refusing}
use Rattle.buffer.specs.Tables.{label_size, use_size, ref_size, asked_size, reloc_size}
use Rattle.buffer.specs.Refusals.{why_label, why_bind, why_align, why_use, why_ref, why_jump, no_room_to_ask, why_reloc}
use Rattle.buffer.specs.Open.{opened, target_opened, settled}
use Rattle.buffer.specs.Calls.{started, put_bytes, get_label, bind_label, aligned_events, align_to, use_label, record_ref, record_jump, add_constant, asked_first, constant_label, add_reloc}
use Rattle.buffer.proofs.Keeping.{keeps_or_not}
use Rattle.buffer.proofs.Accepted.{label_accepted, bind_accepted, use_accepted, ref_accepted, jump_accepted, reloc_accepted, target_label}
use Rattle.recording.specs.Calls.{Recording, Word, Word64, Call, bytes, new_label, bind, align, use_of_label, ref, jump, constant, label_of_constant, relocation, begun, with_buffer, with_label_table, with_event_table, with_use_table, with_ref_table, with_asked_table, with_constant_table, with_reloc_table, after, after_all}
use Rattle.recording.specs.View.{entries, Relocation, view, see_labels}
use Rattle.recording.specs.Open.{naming, is_open, open_of}
use Rattle.recording.specs.Sequences.{Grown, Leads, here, calls, grows}
use Rattle.recording.specs.Sound.{Sound}
use Rattle.recording.proofs.Laws.{see_bind, see_use, see_ref, see_ref_elsewhere, see_jump, see_jump_elsewhere, see_align, see_align_elsewhere, see_reloc, turned_down_unseen}
use Rattle.recording.proofs.Naming.{
  naming_use,
  naming_ref,
  naming_event,
  naming_reloc,
  jump_names_new,
  alignment_names_none,
  opened_is,
  target_opened_is,
  open_new_label,
  open_bound,
  open_unbound,
  named_is,
}
use Rattle.recording.proofs.LongerTables.{grown_open}
use Rattle.recording.proofs.Recordings.{begun_sound, leads_sound}
use Rattle.recording.proofs.Steps.{either, unless}
use Rattle.recording.proofs.Tables.{appended}
use Rattle.recording.proofs.Words.{Words, call_words}
use Rattle.recording.proofs.Views.{length_entries, get_d_entries, one_word_more}

-- what was kept, and the count over the tables after a call less that before it; never below 0
record Kept (r s : Recording) : Type 0 where
  change : s.buffer.unresolved ≡ r.buffer.unresolved + open_of (view s) - open_of (view r)

-- the three ways in which both change
module _ {r s : Recording} where
  unchanged : s.buffer.unresolved ≡ r.buffer.unresolved → open_of (view s) ≡ open_of (view r) → Kept r s
  unchanged e f = record { change = omega (arith, e, f) }

  more : (k : ℕ) → s.buffer.unresolved ≡ r.buffer.unresolved + k → open_of (view s) ≡ open_of (view r) + k → Kept r s
  more k e f = record { change = omega (arith, e, f) }

  fewer : (k : ℕ) → s.buffer.unresolved ≡ r.buffer.unresolved - k → open_of (view r) ≡ open_of (view s) + k → Kept r s
  fewer k e f = record { change = omega (arith, e, f) }

refusing_keeps : (b : CodeBuffer) (why : ℕ) → (refusing b why).unresolved ≡ b.unresolved
unfolding refusing
refusing_keeps b why = either (ltb why 6) (λ (x : CodeBuffer). x.unresolved ≡ b.unresolved) b (with_refusal b why) refl refl

refusing_sees : (r : Recording) (why : ℕ) → open_of (view (with_buffer r (refusing r.buffer why))) ≡ open_of (view r)
unfolding refusing
refusing_sees r why = either (ltb why 6) (λ (b : CodeBuffer). open_of (view (with_buffer r b)) ≡ open_of (view r)) r.buffer (with_refusal r.buffer why) refl refl

-- a call that is turned down
refused : (r : Recording) (why : ℕ) → Kept r (with_buffer r (refusing r.buffer why))
refused r why = unchanged (refusing_keeps r.buffer why) (refusing_sees r why)

module _ (r : Recording) where
  -- a new label opens nothing
  label_more : r.buffer.labels < length r.labels / label_size
      → naming (is_open (entries (word_at (set_word r.labels r.buffer.labels none)) (r.buffer.labels + 1))) (view r) ≡ open_of (view r)
  unfolding naming
  label_more fits =
      ap (λ (ls : List ℕ). naming (is_open ls) (view r))
      (one_word_more r.labels _ r.buffer.labels none (appended r.labels _ r.buffer.labels (none ∷ []) refl (omega arith) (omega arith, tt)))
      ∙ open_new_label (view r)

  kept_bytes : (l : List ℕ) → Kept r (after (bytes l) r)
  unfolding put_bytes naming
  kept_bytes l = either _ (λ (a : Recorded × List ℕ). Kept r (record { buffer = a.0.buffer; code = a.1; labels = r.labels; events = r.events; uses = r.uses; refs = r.refs; constants = r.constants; asked = r.asked; relocs = r.relocs })) _ _ (unchanged refl refl) (refused r _)

  kept_label : Kept r (after new_label r)
  unfolding get_label naming
  kept_label =
      let why = why_label r.buffer (length r.labels / label_size) in
      ⊎_elim
      (λ (h : why ≡ 0).
      subst (λ (a : Made × List ℕ). Kept r (with_label_table r a.0.buffer a.1)) (sym (yes_eq why 0 _ _ h))
      (unchanged refl (label_more (label_accepted h).fits)))
      (λ ne. subst (λ (a : Made × List ℕ). Kept r (with_label_table r a.0.buffer a.1)) (sym (no_eq why 0 _ _ ne)) (refused r why))
      (eq_or_ne why 0)

  kept_constant : (l : List ℕ) → Kept r (after (constant l) r)
  unfolding add_constant naming
  kept_constant l = either _ (λ (a : Made × List ℕ). Kept r (with_constant_table r a.0.buffer a.1)) _ _ (unchanged refl refl) (refused r _)

  kept_asking : (n : Word) → Kept r (after (label_of_constant n) r)
  unfolding constant_label asked_first naming
  kept_asking n =
      let asked = length r.asked / asked_size in
      let labels = length r.labels / label_size in
      let P : Made × (List ℕ × (List ℕ × List ℕ)) → Type 0 =
      λ a. Kept r (with_label_table (with_asked_table (with_constant_table r a.0.buffer a.1.0) a.1.1.0) a.0.buffer a.1.1.1) in
      either _ P _ _
      (either _ P _ _
      (unless (no_room_to_ask r.buffer asked labels) P _ _
      (refused r 11)
      (λ room. unchanged refl (label_more (leb-false labels r.buffer.labels (both_false (leb labels r.buffer.labels) (leb asked r.buffer.asked) room).0))))
      (unchanged refl refl))
      (refused r _)

  -- an alignment names no label
  align_unresolved : (m most : Word) → (after (align m most) r).buffer.unresolved ≡ r.buffer.unresolved
  unfolding align_to aligned_events
  align_unresolved m most =
      either _ (λ (a : Recorded × (List ℕ × List ℕ)). a.0.buffer.unresolved ≡ r.buffer.unresolved) _ _
      (either _ (λ (a : CodeBuffer × List ℕ). a.0.unresolved ≡ r.buffer.unresolved) _ _ refl refl)
      (refusing_keeps r.buffer _)

  align_sees : (m most : Word) → open_of (view (after (align m most) r)) ≡ open_of (view r)
  unfolding align_to naming pick
  align_sees m most =
      let b = r.buffer in
      let why = why_align b (length r.code) (length r.events / event_size) m.value most.value in
      let pad = padding_within b.code m.value most.value in
      ⊎_elim
      (λ (h : why ≡ 0).
      ⊎_elim
      (λ (kept : keeps_events b.arch ≡ true).
      ap open_of (see_align r m most h kept)
      ∙ naming_event (is_open (view r).labels) (view r) (event_of alignment_kind b.code pad m.value most.value)
      ∙ rw (alignment_names_none (is_open (view r).labels) b.code pad m.value most.value) (omega arith))
      (λ other. ap open_of (see_align_elsewhere r m most h other))
      (keeps_or_not b.arch))
      (λ ne.
      ap open_of
      (turned_down_unseen (align m most) r
      (λ z. ne (sym (ap (λ (a : Recorded × (List ℕ × List ℕ)). a.0.refusal) (no_eq why 0 _ _ ne)) ∙ z))))
      (eq_or_ne why 0)

  kept_align : (m most : Word) → Kept r (after (align m most) r)
  kept_align m most = unchanged (align_unresolved m most) (align_sees m most)

  kept_use : (o l c : Word) → Kept r (after (use_of_label o l c) r)
  unfolding use_label naming
  kept_use o l c =
      let b = r.buffer in
      let why = why_use b (length r.labels / label_size) (length r.uses / use_size) l.value c.value in
      ⊎_elim
      (λ (h : why ≡ 0).
      more (opened r.labels l.value) (ap (λ (a : Recorded × List ℕ). a.0.buffer.unresolved) (yes_eq why 0 _ _ h))
      (ap open_of (see_use r o l c h)
      ∙ naming_use (is_open (view r).labels) (view r) (record { offset = o.value; label = l.value; code = c.value })
      ∙ ap (λ (k : ℕ). open_of (view r) + k) (opened_is r.labels b.labels l.value (use_accepted h).known)))
      (λ ne. subst (λ (a : Recorded × List ℕ). Kept r (with_use_table r a.0.buffer a.1)) (sym (no_eq why 0 _ _ ne)) (refused r why))
      (eq_or_ne why 0)

  -- elsewhere nothing is kept
  kept_ref : (o l c d : Word) → Kept r (after (ref o l c d) r)
  unfolding record_ref naming
  kept_ref o l c d =
      let b = r.buffer in
      let why = why_ref b (length r.labels / label_size) (length r.refs / ref_size) l.value c.value in
      ⊎_elim
      (λ (h : why ≡ 0).
      ⊎_elim
      (λ (kept : keeps_events b.arch ≡ true).
      more (opened r.labels l.value) (ap (λ (a : Recorded × List ℕ). a.0.buffer.unresolved) (yes_eq why 0 _ _ h ∙ pick_yes (keeps_events b.arch) _ _ kept))
      (ap open_of (see_ref r o l c d h kept)
      ∙ naming_ref (is_open (view r).labels) (view r) (record { offset = o.value; label = l.value; code = c.value; addend = d.value })
      ∙ ap (λ (k : ℕ). open_of (view r) + k) (opened_is r.labels b.labels l.value (ref_accepted h kept).known)))
      (λ other.
      unchanged (ap (λ (a : Recorded × List ℕ). a.0.buffer.unresolved) (yes_eq why 0 _ _ h ∙ pick_no (keeps_events b.arch) _ _ other)) (ap open_of (see_ref_elsewhere r o l c d h other)))
      (keeps_or_not b.arch))
      (λ ne. subst (λ (a : Recorded × List ℕ). Kept r (with_ref_table r a.0.buffer a.1)) (sym (no_eq why 0 _ _ ne)) (refused r why))
      (eq_or_ne why 0)

  kept_jump : (p n l c : Word) → Kept r (after (jump p n l c) r)
  unfolding record_jump naming
  kept_jump p n l c =
      let b = r.buffer in
      let why = why_jump b r.labels r.events p.value n.value l.value c.value in
      ⊎_elim
      (λ (h : why ≡ 0).
      ⊎_elim
      (λ (x64 : b.arch ≡ 2).
      more (opened r.labels l.value) (ap (λ (a : Recorded × List ℕ). a.0.buffer.unresolved) (yes_eq why 0 _ _ h ∙ yes_eq b.arch 2 _ _ x64))
      (ap open_of (see_jump r p n l c h x64)
      ∙ naming_event (is_open (view r).labels) (view r) (event_of jump_kind p.value n.value l.value c.value)
      ∙ ap (λ (k : ℕ). open_of (view r) + k)
      (ap one (jump_names_new (is_open (view r).labels) p.value n.value l.value c.value)
      ∙ opened_is r.labels b.labels l.value (jump_accepted h x64).known)))
      (λ other.
      unchanged (ap (λ (a : Recorded × List ℕ). a.0.buffer.unresolved) (yes_eq why 0 _ _ h ∙ no_eq b.arch 2 _ _ other)) (ap open_of (see_jump_elsewhere r p n l c h other)))
      (eq_or_ne b.arch 2))
      (λ ne. subst (λ (a : Recorded × List ℕ). Kept r (with_event_table r a.0.buffer a.1)) (sym (no_eq why 0 _ _ ne)) (refused r why))
      (eq_or_ne why 0)

  kept_reloc : (o k t : Word) (d : Word64) → Kept r (after (relocation o k t d) r)
  unfolding add_reloc naming
  kept_reloc o k t d =
      let b = r.buffer in
      let why = why_reloc b (length r.labels / label_size) (length r.relocs / reloc_size) o.value k.value t.value in
      let new : Relocation = record { offset = o.value; kind = k.value; target = t.value; addend = d.value } in
      ⊎_elim
      (λ (h : why ≡ 0).
      more (target_opened r.labels t.value) (ap (λ (a : Recorded × List ℕ). a.0.buffer.unresolved) (yes_eq why 0 _ _ h))
      (ap open_of (see_reloc r o k t d h)
      ∙ naming_reloc (is_open (view r).labels) (view r) new
      ∙ ap (λ (j : ℕ). open_of (view r) + j) (target_opened_is r.labels b.labels new (target_label b t.value (reloc_accepted h).known))))
      (λ ne. subst (λ (a : Recorded × List ℕ). Kept r (with_reloc_table r a.0.buffer a.1)) (sym (no_eq why 0 _ _ ne)) (refused r why))
      (eq_or_ne why 0)

  -- a bind settles the entries that name its label, unless the current offset is that of a label which is not bound
  kept_bind : (l : Word) → r.buffer.code < 4294967296 → Kept r (after (bind l) r)
  unfolding bind_label settled naming
  kept_bind l small =
      let b = r.buffer in
      let label = l.value in
      let why = why_bind b r.labels (length r.events / event_size) (length r.uses / use_size) (length r.refs / ref_size) (length r.relocs / reloc_size) label in
      ⊎_elim
      (λ (h : why ≡ 0).
      let f = bind_accepted h in
      let known : label < length (view r).labels = omega (arith, f.known, length_entries (word_at r.labels) b.labels) in
      let free = get_d_entries (word_at r.labels) b.labels label none f.known ∙ f.unbound in
      let seen = ap open_of (see_bind r l h small) in
      let left = ap (λ (a : Recorded × List ℕ). a.0.buffer.unresolved) (yes_eq why 0 _ _ h) in
      ⊎_elim
      (λ (at_none : b.code ≡ none).
      fewer 0 (left ∙ ap (λ (k : ℕ). b.unresolved - k) (yes_eq b.code none 0 _ at_none))
      (omega (arith, seen, ap (λ (code : ℕ). open_of (see_labels (view r) (set (view r).labels label code))) at_none, open_unbound (view r) label known free)))
      (λ bound.
      fewer (naming (λ (x : ℕ). eqb x label) (view r))
      (left ∙ ap (λ (k : ℕ). b.unresolved - k) (no_eq b.code none 0 _ bound ∙ named_is r label))
      (omega (arith, seen, open_bound (view r) label b.code known free bound)))
      (eq_or_ne b.code none))
      (λ ne. subst (λ (a : Recorded × List ℕ). Kept r (with_label_table r a.0.buffer a.1)) (sym (no_eq why 0 _ _ ne)) (unchanged refl refl))
      (eq_or_ne why 0)

-- Every call, refused ones too, changes the number by the count over the tables after it, less that before it. Where it was right it stays right; where it
-- was wrong it changes by as much, and stops at 0. (The current offset is a word of 32 bits.)
pub open_kept : (c : Call) (r : Recording) → r.buffer.code < 4294967296
    → (after c r).buffer.unresolved ≡ r.buffer.unresolved + open_of (view (after c r)) - open_of (view r)
open_kept (bytes l) r small = (kept_bytes r l).change
open_kept new_label r small = (kept_label r).change
open_kept (bind l) r small = (kept_bind r l small).change
open_kept (align m most) r small = (kept_align r m most).change
open_kept (use_of_label o l c) r small = (kept_use r o l c).change
open_kept (ref o l c d) r small = (kept_ref r o l c d).change
open_kept (jump p n l c) r small = (kept_jump r p n l c).change
open_kept (constant l) r small = (kept_constant r l).change
open_kept (label_of_constant n) r small = (kept_asking r n).change
open_kept (relocation o k t d) r small = (kept_reloc r o k t d).change

-- the number is the count over the tables
abbrev pub Right : Recording → Type 0
Right r = r.buffer.unresolved ≡ open_of (view r)

pub call_right : (c : Call) (r : Recording) → r.buffer.code < 4294967296 → Right r → Right (after c r)
call_right c r small right = omega (arith, open_kept c r small, right)

pub calls_right : (cs : List Call) (r : Recording) → Words r.buffer → Right r → Right (after_all cs r)
calls_right [] r w right = right
calls_right (c ∷ cs) r w right = calls_right cs (after c r) (call_words c r w) (call_right c r w.code right)

-- longer tables have the same entries
pub grown_right : (r s : Recording) → Grown r s → Right r → Right s
grown_right r s g right = ap (λ (b : CodeBuffer). b.unresolved) g.counts ∙ right ∙ sym (grown_open r s g)

-- where nothing is counted, nothing is open
pub begun_right : (arch symbols : ℕ) (code labels events uses refs constants asked relocs : List ℕ)
    → Right (begun arch symbols code labels events uses refs constants asked relocs)
unfolding started naming count
begun_right arch symbols code labels events uses refs constants asked relocs =
    either _
    (λ (a : Recorded).
    Right (record { buffer = a.buffer; code = code; labels = labels; events = events; uses = uses; refs = refs; constants = constants; asked = asked; relocs = relocs }))
    _ _ refl refl

-- what calls and growth make of a recording whose number is right
pub leads_right : (r s : Recording) → Leads r s → Sound r → Right r → Right s
leads_right r s here sound right = right
leads_right r s (calls c t before) sound right =
    call_right c t (omega (arith, (leads_sound r t before sound).code.limit)) (leads_right r t before sound right)
leads_right r s (grows t u before growth) sound right = grown_right t u growth (leads_right r t before sound right)

-- From start on, every sequence of calls, refused ones too, and of tables replaced by longer ones keeps the number right.
pub open_right : (arch symbols : ℕ) (code labels events uses refs constants asked relocs : List ℕ) (r : Recording)
    → Leads (begun arch symbols code labels events uses refs constants asked relocs) r → r.buffer.unresolved ≡ open_of (view r)
open_right arch symbols code labels events uses refs constants asked relocs r made =
    leads_right _ r made (begun_sound code labels events uses refs constants asked relocs arch symbols) (begun_right arch symbols code labels events uses refs constants asked relocs)
