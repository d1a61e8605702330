-- A sound entry appended to a sound table leaves a sound table.
use mathlib.Core.Path.{◌≡◌, sym, ap, ◌∙◌, subst}
use mathlib.Core.Logic.{◌⊎◌, ◌≢◌, inl, inr, ⊎_elim}
use mathlib.Core.Bool.{true, false}
use mathlib.Core.List.{List, [], ◌∷◌}
use Prim.Native.Nat.{ℕ, ◌+◌, ◌-◌, ◌*◌, ◌/◌, ◌≤◌, ◌<◌}
use native.Mathlib.Omega.{arith}
use native.Mathlib.Nat.{le_refl}
use borrow.Author.Tests.{ltb-true}
use lib.Dec.{eqb}
use lib.ListN.{length, get_or}
use Rattle.seqs.specs.Pick.{pick}
use Rattle.seqs.proofs.Picking.{no_eq, yes_lt, no_lt}
use Rattle.relax.specs.Events.{event_at, end_of, event_words, event_size}
use Rattle.seqs.proofs.Numbers.{lt_or_ge, eq_or_ne}
use Rattle.words.specs.Words.{word_at, set_word}
use Rattle.seqs.specs.Over.{over}
use Rattle.seqs.proofs.Overwrites.{length_over}
use Rattle.words.proofs.Laws.{length_set_word, word_at_same, word_at_before, word_at_other}
use Rattle.words.proofs.Entries.{Small, small_at, set_words, length_set_words, set_words_below, set_words_in}
use Rattle.fields.specs.Kinds.{decoded}
use Rattle.relax.proofs.Columns.{end_at_lem}
use Rattle.buffer.specs.declared.CodeBuffer.{CodeBuffer}
use Rattle.buffer.specs.State.{none, keeps_events}
use Rattle.buffer.specs.Refusals.{foreign, foreign_reloc, target_known, last_end}
use Rattle.buffer.specs.Tables.{most_entries, most_code, label_size, use_words, use_size, ref_words, ref_size, reloc_words, reloc_size}
use Rattle.recording.specs.Sound.{
  start_at,
  end_at,
  LabelSound,
  LabelsSound,
  FormOf,
  EventSound,
  EventsSound,
  UseSound,
  UsesSound,
  RefSound,
  RefsSound,
  Target,
  RelocSound,
  RelocsSound,
}

-- u is the table t with the words vs from word k on
pub record Appended (t u : List ℕ) (k : ℕ) (vs : List ℕ) : Type 0 where
  pub size : length u ≡ length t
  pub below : (j : ℕ) → j < k → word_at u j ≡ word_at t j
  pub written : (i : ℕ) → i < length vs → word_at u (k + i) ≡ get_or vs i 0

pub appended : (t u : List ℕ) (k : ℕ) (vs : List ℕ) → u ≡ set_words t k vs → (k + length vs) * 4 ≤ length t → Small vs → Appended t u k vs
appended t u k vs e room small =
    record {
      size = ap length e ∙ length_set_words t k vs;
      below = λ j l. ap (λ (x : List ℕ). word_at x j) e ∙ set_words_below t k vs j l;
      written = λ i l. ap (λ (x : List ℕ). word_at x (k + i)) e ∙ set_words_in t k vs room i l (small_at vs i small);
    }

-- what is written after those words leaves them
pub appended_before : (t u : List ℕ) (k : ℕ) (vs ys : List ℕ) (at : ℕ) → (k + length vs) * 4 ≤ at → Appended t u k vs → Appended t (over u at ys) k vs
appended_before t u k vs ys at room a =
    record {
      size = length_over u at ys ∙ a.size;
      below = λ j l. word_at_before u ys at j (omega arith) ∙ a.below j l;
      written = λ i l. word_at_before u ys at (k + i) (omega arith) ∙ a.written i l;
    }

-- one entry more: the old ones, and the new one
pub one_more : (n : ℕ) (P : ℕ → Type 0) → ((i : ℕ) → i < n → P i) → P n → (i : ℕ) → i < n + 1 → P i
one_more n P old new i h =
    ⊎_elim
    (λ lt. old i lt)
    (λ ge. let e : n ≡ i = omega arith in subst P e new)
    (lt_or_ge i n)

module _ (t u : List ℕ) (n arch labels : ℕ) where
  pub append_use : (offset label code : ℕ) → Appended t u (n * use_words) (offset ∷ label ∷ code ∷ []) → n < length t / use_size
      → code ≤ 16 → code ≢ 15 → foreign (decoded code) arch ≡ false → label < labels → UsesSound t n arch labels → UsesSound u (n + 1) arch labels
  append_use offset label code a room le ne native known s =
      record {
        room = rw a.size (omega arith);
        entry =
            one_more n (UseSound u arch labels)
            (λ i l.
            let e = s.entry i l in
            let b1 = a.below (i * use_words + 1) (omega arith) in
            let b2 = a.below (i * use_words + 2) (omega arith) in
            record { code = rw b2 e.code; patched = rw b2 e.patched; native = rw b2 e.native; label = rw b1 e.label })
            (
            let w1 = a.written 1 (omega arith) in
            let w2 = a.written 2 (omega arith) in
            record { code = rw w2 le; patched = rw w2 ne; native = rw w2 native; label = rw w1 known });
      }

  pub append_ref : (offset label code addend : ℕ) → Appended t u (n * ref_words) (offset ∷ label ∷ code ∷ addend ∷ []) → n < length t / ref_size
      → keeps_events arch ≡ true → foreign (decoded code) arch ≡ false → label < labels → RefsSound t n arch labels → RefsSound u (n + 1) arch labels
  append_ref offset label code addend a room kept native known s =
      record {
        room = rw a.size (omega arith);
        tracked = inl kept;
        entry =
            one_more n (RefSound u arch labels)
            (λ i l.
            let e = s.entry i l in
            record { native = rw (a.below (i * ref_words + 2) (omega arith)) e.native; label = rw (a.below (i * ref_words + 1) (omega arith)) e.label })
            (record { native = rw (a.written 2 (omega arith)) native; label = rw (a.written 1 (omega arith)) known });
      }

  pub append_reloc : (symbols offset kind target low high : ℕ) → Appended t u (n * reloc_words) (offset ∷ kind ∷ target ∷ 0 ∷ low ∷ high ∷ []) → n < length t / reloc_size
      → offset ≤ 16777215 → kind ≤ 27 → foreign_reloc kind arch ≡ false → Target symbols labels target
      → RelocsSound t n arch symbols labels → RelocsSound u (n + 1) arch symbols labels
  append_reloc symbols offset kind target low high a room le small native known s =
      record {
        room = rw a.size (omega arith);
        entry =
            one_more n (RelocSound u arch symbols labels)
            (λ i l.
            let e = s.entry i l in
            let b0 = a.below (i * reloc_words) (omega arith) in
            let b1 = a.below (i * reloc_words + 1) (omega arith) in
            let b2 = a.below (i * reloc_words + 2) (omega arith) in
            record {
              offset = rw b0 e.offset;
              kind = rw b1 e.kind;
              native = rw b1 e.native;
              target = subst (λ (x : ℕ). Target symbols labels x) (sym b2) e.target;
            })
            (
            let at : n * reloc_words + 0 ≡ n * reloc_words = omega arith in
            let w0 : word_at u (n * reloc_words) ≡ offset = ap (λ (x : ℕ). word_at u x) (sym at) ∙ a.written 0 (omega arith) in
            let w1 = a.written 1 (omega arith) in
            let w2 = a.written 2 (omega arith) in
            record {
              offset = rw w0 le;
              kind = rw w1 small;
              native = rw w1 native;
              target = subst (λ (x : ℕ). Target symbols labels x) (sym w2) known;
            });
      }

module _ (t u : List ℕ) (n kind start len what cc : ℕ) (a : Appended t u (n * event_words) (kind ∷ start ∷ len ∷ what ∷ cc ∷ [])) where
  old_end : (i : ℕ) → i < n → end_at u i ≡ end_at t i
  old_end i l = rw (a.below (i * event_words + 1) (omega arith), a.below (i * event_words + 2) (omega arith))

  new_start_lem : start_at u n ≡ start
  new_start_lem = a.written 1 (omega arith)

  new_end_lem : end_at u n ≡ start + len
  new_end_lem = rw (a.written 1 (omega arith), a.written 2 (omega arith))

  new_kind : word_at u (n * event_words) ≡ kind
  new_kind = let at : n * event_words + 0 ≡ n * event_words = omega arith in ap (λ (x : ℕ). word_at u x) (sym at) ∙ a.written 0 (omega arith)

  pub append_event : (labels code code' arch : ℕ) → n < length t / event_size → keeps_events arch ≡ true → FormOf labels kind start len what cc → start + len ≤ code' → code ≤ code'
      → ((i : ℕ) → i < n → end_at t i ≤ start) → EventsSound t n labels code arch → EventsSound u (n + 1) labels code' arch
  append_event labels code code' arch room kept form ends more before s =
      record {
        room = rw a.size (omega arith);
        tracked = inl kept;
        entry =
            one_more n (EventSound u labels code')
            (λ j l.
            let e = s.entry j l in
            record {
              form =
                  rw (
                    a.below (j * event_words) (omega arith),
                    a.below (j * event_words + 1) (omega arith),
                    a.below (j * event_words + 2) (omega arith),
                    a.below (j * event_words + 3) (omega arith),
                    a.below (j * event_words + 4) (omega arith),
                  ) e.form;
              ends = let h = e.ends in rw (old_end j l) (omega arith);
              follows = λ i h. rw (old_end i (omega arith), a.below (j * event_words + 1) (omega arith)) (e.follows i h);
            })
            (record {
              form = rw (new_kind, a.written 1 (omega arith), a.written 2 (omega arith), a.written 3 (omega arith), a.written 4 (omega arith)) form;
              ends = rw new_end_lem ends;
              follows = λ i h. rw (old_end i h, new_start_lem) (before i h);
            });
      }

  -- labels that the new event does not hold strictly inside
  pub labels_beside_event : (labels : List ℕ) (count code code' : ℕ) → code ≤ code'
      → ((i : ℕ) → i < count → (word_at labels i ≡ none) ⊎ ((word_at labels i ≤ start) ⊎ (start + len ≤ word_at labels i)))
      → LabelsSound labels count t n code → LabelsSound labels count u (n + 1) code'
  labels_beside_event labels count code code' more beside s =
      record {
        room = s.room;
        limit = s.limit;
        entry =
            λ i l.
            ⊎_elim
            (λ unbound. inl unbound)
            (λ bound.
            ⊎_elim
            (λ unbound. inl unbound)
            (λ out.
            inr (
              omega (arith, bound.0),
              one_more n (λ j. (word_at labels i ≤ start_at u j) ⊎ (end_at u j ≤ word_at labels i))
                  (λ j h. rw (a.below (j * event_words + 1) (omega arith), a.below (j * event_words + 2) (omega arith)) (bound.1 j h))
                  (rw (new_start_lem, a.written 2 (omega arith)) out),
            ))
            (beside i l))
            (s.entry i l);
      }

-- a new label is unbound
pub append_label : (t u : List ℕ) (n : ℕ) (events : List ℕ) (count code : ℕ) → Appended t u n (none ∷ []) → n < length t / label_size → length t / label_size ≤ most_entries
    → LabelsSound t n events count code → LabelsSound u (n + 1) events count code
append_label t u n events count code a room limit s =
    let at : n + 0 ≡ n = omega arith in
    let w0 : word_at u n ≡ none = ap (λ (x : ℕ). word_at u x) (sym at) ∙ a.written 0 (omega arith) in
    record {
      room = rw a.size (omega arith);
      limit = omega arith;
      entry =
          one_more n (λ i. LabelSound events count code (word_at u i))
          (λ i l. rw (a.below i l) (s.entry i l))
          (inl w0);
    }

-- a label bound to the current offset lies inside no event: all have ended
pub bind_label_lem : (t : List ℕ) (n : ℕ) (events : List ℕ) (count labels code arch : ℕ) (i : ℕ) → i < n → n ≤ length t / label_size → code ≤ most_code
    → EventsSound events count labels code arch → LabelsSound t n events count code → LabelsSound (set_word t i code) n events count code
bind_label_lem t n events count labels code arch i l room small ended s =
    record {
      room = rw (length_set_word t i code) s.room;
      limit = s.limit;
      entry =
          λ j h.
          ⊎_elim
          (λ same.
          let w : word_at (set_word t i code) j ≡ code = ap (λ (x : ℕ). word_at (set_word t i code) x) same ∙ word_at_same t i code (omega arith) (omega arith) in
          inr (omega (arith, w), λ k lt. inr (rw w (ended.entry k lt).ends)))
          (λ other. rw (word_at_other t i code j other) (s.entry j h))
          (eq_or_ne j i);
    }

-- every event ends before the last one does
pub ends_by_last : (t : List ℕ) (n labels code arch : ℕ) → EventsSound t n labels code arch → (i : ℕ) → i < n → end_at t i ≤ last_end t n
unfolding last_end
ends_by_last t n labels code arch s i l =
    let last : n - 1 < n = omega arith in
    let e : pick (eqb n 0) 0 (end_of (event_at t (n - 1))) ≡ end_at t (n - 1) = no_eq n 0 _ _ (λ z. omega arith) ∙ end_at_lem t (n - 1) in
    rw e
    (⊎_elim
    (λ lt. let f = (s.entry (n - 1) last).follows i lt in omega arith)
    (λ ge. let same : i ≡ n - 1 = omega arith in rw same (le_refl _))
    (lt_or_ge i (n - 1)))

-- a target that is known, by the definition of sound entries
pub known_target : (b : CodeBuffer) (target : ℕ) → target_known b target ≡ true → Target b.symbols b.labels target
unfolding target_known
known_target b target h =
    ⊎_elim
    (λ lt. inl (lt, ltb-true target b.symbols (sym (yes_lt target 2147483648 _ _ lt) ∙ h)))
    (λ ge.
    let k = ltb-true (target - 2147483648) b.labels (sym (no_lt target 2147483648 _ _ ge) ∙ h) in
    inr (ge, omega arith))
    (lt_or_ge target 2147483648)
