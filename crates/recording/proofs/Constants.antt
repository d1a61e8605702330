-- Constants and the order of asking stay sound.
use mathlib.Core.Path.{◌≡◌, sym, ap, ◌∙◌}
use mathlib.Core.Logic.{◌≢◌, inl, inr, ⊎_elim}
use mathlib.Core.List.{List, [], ◌∷◌}
use Prim.Native.Nat.{ℕ, ◌+◌, ◌*◌, ◌/◌, ◌≤◌, ◌<◌}
use native.Mathlib.Omega.{arith}
use lib.ListN.{length}
use Rattle.seqs.proofs.Numbers.{lt_or_ge, eq_or_ne}
use Rattle.words.specs.Words.{word_at, set_word}
use Rattle.words.proofs.Laws.{length_set_word, word_at_same, word_at_other}
use Rattle.buffer.specs.State.{none}
use Rattle.buffer.specs.Tables.{most_entries, asked_size, constant_words, constant_size}
use Rattle.recording.specs.Sound.{ConstantSound, ConstantsSound, AskedSound, label_of}
use Rattle.recording.proofs.Tables.{Appended, one_more}

module _ (t u : List ℕ) (n size : ℕ) (a : Appended t u (n * constant_words) (size ∷ none ∷ [])) where
  old_label : (i : ℕ) → i < n → label_of u i ≡ label_of t i
  old_label i l = a.below (i * constant_words + 1) (omega arith)

  new_label_lem : label_of u n ≡ none
  new_label_lem = a.written 1 (omega arith)

  pub append_constant : (labels : ℕ) → n < length t / constant_size → length t / constant_size ≤ most_entries → size ≤ 64 → ConstantsSound t n labels → ConstantsSound u (n + 1) labels
  append_constant labels room limit le s =
      let at : n * constant_words + 0 ≡ n * constant_words = omega arith in
      let w0 : word_at u (n * constant_words) ≡ size = ap (λ (x : ℕ). word_at u x) (sym at) ∙ a.written 0 (omega arith) in
      record {
        room = rw a.size (omega arith);
        limit = omega arith;
        entry =
            one_more n (ConstantSound u labels)
            (λ i l. let e = s.entry i l in record { size = rw (a.below (i * constant_words) (omega arith)) e.size; label = rw (old_label i l) e.label })
            (record { size = rw w0 le; label = inl new_label_lem });
      }

  -- a constant that has no label yet changes nothing in the order of asking
  pub asked_before_constant : (asked : List ℕ) (count : ℕ) → AskedSound asked count t n → AskedSound asked count u (n + 1)
  asked_before_constant asked count s =
      record {
        room = s.room;
        listed = λ i l. let e = s.listed i l in (omega (arith, e.0), λ z. e.1 (sym (old_label (word_at asked i) e.0) ∙ z));
        once =
            λ i j h l.
            let e = s.once i j h l in
            let p = s.listed i (omega arith) in
            let q = s.listed j l in
            (e.0, λ z. e.1 (sym (old_label (word_at asked i) p.0) ∙ z ∙ old_label (word_at asked j) q.0));
        all =
            λ c l has.
            ⊎_elim
            (λ lt. s.all c lt (λ z. has (old_label c lt ∙ z)))
            (λ ge. let e : c ≡ n = omega arith in absurd (has (ap (λ (x : ℕ). label_of u x) e ∙ new_label_lem)))
            (lt_or_ge c n);
      }

module _ (t : List ℕ) (known labels c : ℕ) (is_known : c < known) (room : known ≤ length t / constant_size) (limit : labels ≤ most_entries) (none_yet : label_of t c ≡ none) where
  abbrev labelled : List ℕ
  labelled = set_word t (c * constant_words + 1) labels

  its_label : label_of labelled c ≡ labels
  its_label = word_at_same t (c * constant_words + 1) labels (omega arith) (omega arith)

  other_label : (i : ℕ) → i ≢ c → label_of labelled i ≡ label_of t i
  other_label i h = word_at_other t (c * constant_words + 1) labels (i * constant_words + 1) (λ e. let f : i ≡ c = omega arith in h f)

  pub label_constant : ConstantsSound t known labels → ConstantsSound labelled known (labels + 1)
  label_constant s =
      record {
        room = rw (length_set_word t (c * constant_words + 1) labels) s.room;
        limit = s.limit;
        entry =
            λ i l.
            let e = s.entry i l in
            record {
              size = rw (word_at_other t (c * constant_words + 1) labels (i * constant_words) (λ z. omega arith)) e.size;
              label =
                  ⊎_elim
                  (λ same. inr (omega (arith, ap (λ (x : ℕ). label_of labelled x) same, its_label)))
                  (λ other. rw (other_label i other) (⊎_elim (λ u. inl u) (λ k. inr (omega arith)) e.label))
                  (eq_or_ne i c);
            };
      }

  module _ (asked : List ℕ) (count : ℕ) (asked_room : count < length asked / asked_size) (constants : ConstantsSound t known labels) (s : AskedSound asked count t known) where
    abbrev listed_now : List ℕ
    listed_now = set_word asked count c

    old_asked : (i : ℕ) → i < count → word_at listed_now i ≡ word_at asked i
    old_asked i l = word_at_other asked count c i (λ e. omega arith)

    new_asked : word_at listed_now count ≡ c
    new_asked = let k = constants.limit in word_at_same asked count c (omega arith) (omega arith)

    -- a constant that was asked for has a label, so it is another one
    earlier_differs : (i : ℕ) → i < count → word_at asked i ≢ c
    earlier_differs i l e = (s.listed i l).1 (ap (λ (x : ℕ). label_of t x) e ∙ none_yet)

    earlier_label : (i : ℕ) → i < count → label_of labelled (word_at asked i) ≡ label_of t (word_at asked i)
    earlier_label i l = other_label (word_at asked i) (earlier_differs i l)

    earlier_label_below : (i : ℕ) → i < count → label_of t (word_at asked i) < labels
    earlier_label_below i l =
        let e = s.listed i l in
        ⊎_elim (λ u. absurd (e.1 u)) (λ k. k) (constants.entry (word_at asked i) e.0).label

    pub ask : AskedSound listed_now (count + 1) labelled known
    ask =
        record {
          room = rw (length_set_word asked count c) (omega arith);
          listed =
              one_more count (λ i. (word_at listed_now i < known) × (label_of labelled (word_at listed_now i) ≢ none))
              (λ i l. rw (old_asked i l, earlier_label i l) (s.listed i l))
              (rw (new_asked, its_label) (is_known, λ e. omega arith));
          once =
              λ i j h l.
              ⊎_elim
              (λ lt.
              rw (old_asked i (omega arith), old_asked j lt, earlier_label i (omega arith), earlier_label j lt) (s.once i j h lt))
              (λ ge.
              let e : j ≡ count = omega arith in
              let li : i < count = omega arith in
              let n : word_at listed_now j ≡ c = ap (λ (x : ℕ). word_at listed_now x) e ∙ new_asked in
              let below = earlier_label_below i li in
              rw (old_asked i li, n, earlier_label i li, its_label) (earlier_differs i li, λ z. omega arith))
              (lt_or_ge j count);
          all =
              λ n l has.
              ⊎_elim
              (λ same. (count, omega arith, new_asked ∙ sym same))
              (λ other.
              let old = s.all n l (λ z. has (other_label n other ∙ z)) in
              (old.0, omega (arith, old.1), old_asked old.0 old.1 ∙ old.2))
              (eq_or_ne n c);
        }
