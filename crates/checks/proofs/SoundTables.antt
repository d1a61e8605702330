-- The other tables: what fits is sound, and what is sound fits.
use mathlib.Core.Path.{◌≡◌, ◌∙◌}
use mathlib.Core.Logic.{◌⊎◌, inl, inr, ⊎_elim}
use mathlib.Core.Bool.{true, not, ◌&&◌, ◌||◌}
use mathlib.Core.List.{List}
use Prim.Native.Nat.{ℕ, ◌+◌, ◌-◌, ◌*◌, ◌≤◌, ◌<◌}
use native.Mathlib.Omega.{arith}
use borrow.Author.Tests.{eq-eqb, ne_eqb, le-leb, lt-ltb, eqb-true, eqb-false, leb-true, ltb-true, not-true, not-false}
use lib.Dec.{eqb, leb, ltb}
use lib.ListN.{length}
use Rattle.seqs.proofs.Numbers.{eq_or_ne}
use Rattle.seqs.proofs.Booleans.{both_true}
use Rattle.seqs.proofs.Picking.{yes_lt, no_lt}
use Rattle.words.specs.Words.{word_at}
use Rattle.fields.specs.Kinds.{decoded}
use Rattle.buffer.specs.declared.CodeBuffer.{CodeBuffer}
use Rattle.buffer.specs.State.{none}
use Rattle.buffer.specs.Refusals.{foreign, foreign_reloc, target_known}
use Rattle.buffer.specs.Tables.{most_entries, label_size, use_words, use_size, ref_words, ref_size, constant_words, constant_size, asked_size, reloc_words, reloc_size}
use Rattle.recording.specs.Sound.{start_at, end_at, label_of, LabelSound, LabelsSound, UsesSound, RefsSound, Target, RelocsSound, ConstantsSound, AskedSound}
use Rattle.recording.proofs.Tables.{known_target}
use Rattle.seqs.specs.Every.{all}
use Rattle.checks.specs.Entries.{outside, label_fits, labels_fit, use_fits, uses_fit, ref_fits, refs_fit, reloc_fits, relocs_fit, constant_fits, constants_fit, asked_fits, asked_once, is_asked, order_fits}
use Rattle.checks.specs.steps.Handed.{Labelled, new_at}
use Rattle.seqs.proofs.Every.{all_at, all_of, all_not, all_fails}
use Rattle.checks.proofs.SoundEvents.{and_by, or_by, or_first, or_second, kept, keeps}

label_sound : (events : List ℕ) (n code offset : ℕ) → label_fits events n code offset ≡ true → LabelSound events n code offset
unfolding label_fits outside
label_sound events n code offset h =
    ⊎_elim
    (λ e. inl (eqb-true offset none e))
    (λ e.
    let a = both_true (leb offset code) (outside events n offset) e in
    inr (
      leb-true offset code a.0,
      λ j l.
          ⊎_elim
          (λ q. inl (leb-true offset (start_at events j) q))
          (λ q. inr (leb-true (end_at events j) offset q))
          (or_by (leb offset (start_at events j)) (leb (end_at events j) offset) (all_at (λ (k : ℕ). leb offset (start_at events k) || leb (end_at events k) offset) n j a.1 l)),
    ))
    (or_by (eqb offset none) (leb offset code && outside events n offset) h)

label_fits_lem : (events : List ℕ) (n code offset : ℕ) → LabelSound events n code offset → label_fits events n code offset ≡ true
unfolding label_fits outside
label_fits_lem events n code offset s =
    ⊎_elim
    (λ e. or_first (eqb offset none) (leb offset code && outside events n offset) (eq-eqb offset none e))
    (λ e.
    or_second (eqb offset none) (leb offset code && outside events n offset)
    (and_by (leb offset code) (outside events n offset) (le-leb offset code e.0)
    (all_of (λ (k : ℕ). leb offset (start_at events k) || leb (end_at events k) offset) n
    (λ j l.
    ⊎_elim
    (λ q. or_first (leb offset (start_at events j)) (leb (end_at events j) offset) (le-leb offset (start_at events j) q))
    (λ q. or_second (leb offset (start_at events j)) (leb (end_at events j) offset) (le-leb (end_at events j) offset q))
    (e.1 j l)))))
    s

module _ (labels : List ℕ) (n : ℕ) (events : List ℕ) (m code : ℕ) where
  pub labels_sound : n * label_size ≤ length labels → n ≤ most_entries → labels_fit labels n events m code ≡ true → LabelsSound labels n events m code
  unfolding labels_fit
  labels_sound room limit h =
      record {
        room = omega arith;
        limit = limit;
        entry = λ i l. label_sound events m code (word_at labels i) (all_at (λ (k : ℕ). label_fits events m code (word_at labels k)) n i h l);
      }

  pub labels_fit_lem : LabelsSound labels n events m code → labels_fit labels n events m code ≡ true
  unfolding labels_fit
  labels_fit_lem s = all_of (λ (k : ℕ). label_fits events m code (word_at labels k)) n (λ i l. label_fits_lem events m code (word_at labels i) (s.entry i l))

module _ (uses : List ℕ) (n arch labels : ℕ) where
  pub uses_sound : n * use_size ≤ length uses → uses_fit uses n arch labels ≡ true → UsesSound uses n arch labels
  unfolding uses_fit use_fits
  uses_sound room h =
      record {
        room = omega arith;
        entry = λ i l.
            let code = word_at uses (i * use_words + 2) in
            let a = both_true (leb code 16) _ (all_at (use_fits uses arch labels) n i h l) in
            let b = both_true (not (eqb code 15)) (not (foreign (decoded code) arch) && ltb (word_at uses (i * use_words + 1)) labels) a.1 in
            let d = both_true (not (foreign (decoded code) arch)) (ltb (word_at uses (i * use_words + 1)) labels) b.1 in
            record {
              code = leb-true code 16 a.0;
              patched = eqb-false code 15 (not-true (eqb code 15) b.0);
              native = not-true (foreign (decoded code) arch) d.0;
              label = ltb-true (word_at uses (i * use_words + 1)) labels d.1;
            };
      }

  pub uses_fit_lem : UsesSound uses n arch labels → uses_fit uses n arch labels ≡ true
  unfolding uses_fit use_fits
  uses_fit_lem s =
      all_of (use_fits uses arch labels) n
      (λ i l.
      let e = s.entry i l in
      rw (
        le-leb (word_at uses (i * use_words + 2)) 16 e.code,
        ne_eqb (word_at uses (i * use_words + 2)) 15 e.patched,
        e.native,
        lt-ltb (word_at uses (i * use_words + 1)) labels e.label,
      ))

module _ (refs : List ℕ) (n arch labels : ℕ) where
  pub refs_sound : n * ref_size ≤ length refs → refs_fit refs n arch labels ≡ true → RefsSound refs n arch labels
  unfolding refs_fit ref_fits
  refs_sound room h =
      let k = kept arch n (all (ref_fits refs arch labels) n) h in
      record {
        room = omega arith;
        tracked = k.0;
        entry = λ i l.
            let code = word_at refs (i * ref_words + 2) in
            let a = both_true (not (foreign (decoded code) arch)) (ltb (word_at refs (i * ref_words + 1)) labels) (all_at (ref_fits refs arch labels) n i k.1 l) in
            record { native = not-true (foreign (decoded code) arch) a.0; label = ltb-true (word_at refs (i * ref_words + 1)) labels a.1 };
      }

  pub refs_fit_lem : RefsSound refs n arch labels → refs_fit refs n arch labels ≡ true
  unfolding refs_fit ref_fits
  refs_fit_lem s =
      keeps arch n (all (ref_fits refs arch labels) n) s.tracked
      (all_of (ref_fits refs arch labels) n
      (λ i l. let e = s.entry i l in rw (e.native, lt-ltb (word_at refs (i * ref_words + 1)) labels e.label)))

target_fits : (b : CodeBuffer) (target : ℕ) → Target b.symbols b.labels target → target_known b target ≡ true
unfolding target_known
target_fits b target s =
    ⊎_elim
    (λ e. yes_lt target 2147483648 _ _ e.0 ∙ lt-ltb target b.symbols e.1)
    (λ e. no_lt target 2147483648 _ _ e.0 ∙ lt-ltb (target - 2147483648) b.labels (omega (arith, e.0, e.1)))
    s

module _ (b : CodeBuffer) (relocs : List ℕ) where
  pub relocs_sound : b.relocs * reloc_size ≤ length relocs → relocs_fit b relocs ≡ true → RelocsSound relocs b.relocs b.arch b.symbols b.labels
  unfolding relocs_fit reloc_fits
  relocs_sound room h =
      record {
        room = omega arith;
        entry = λ i l.
            let kind = word_at relocs (i * reloc_words + 1) in
            let a = both_true (leb (word_at relocs (i * reloc_words)) 16777215) _ (all_at (reloc_fits b relocs) b.relocs i h l) in
            let d = both_true (leb kind 27) (not (foreign_reloc kind b.arch) && target_known b (word_at relocs (i * reloc_words + 2))) a.1 in
            let e = both_true (not (foreign_reloc kind b.arch)) (target_known b (word_at relocs (i * reloc_words + 2))) d.1 in
            record {
              offset = leb-true (word_at relocs (i * reloc_words)) 16777215 a.0;
              kind = leb-true kind 27 d.0;
              native = not-true (foreign_reloc kind b.arch) e.0;
              target = known_target b (word_at relocs (i * reloc_words + 2)) e.1;
            };
      }

  pub relocs_fit_lem : RelocsSound relocs b.relocs b.arch b.symbols b.labels → relocs_fit b relocs ≡ true
  unfolding relocs_fit reloc_fits
  relocs_fit_lem s =
      all_of (reloc_fits b relocs) b.relocs
      (λ i l.
      let e = s.entry i l in
      rw (
        le-leb (word_at relocs (i * reloc_words)) 16777215 e.offset,
        le-leb (word_at relocs (i * reloc_words + 1)) 27 e.kind,
        e.native,
        target_fits b (word_at relocs (i * reloc_words + 2)) e.target,
      ))

module _ (constants : List ℕ) (n labels : ℕ) where
  constant_at_lem : (i : ℕ) → constants_fit constants n labels ≡ true → i < n
      → (word_at constants (i * constant_words) ≤ 64) × ((label_of constants i ≡ none) ⊎ (label_of constants i < labels))
  unfolding constants_fit constant_fits
  constant_at_lem i h l =
      let a = both_true (leb (word_at constants (i * constant_words)) 64) _ (all_at (constant_fits constants labels) n i h l) in (
        leb-true (word_at constants (i * constant_words)) 64 a.0,
        ⊎_elim
            (λ e. inl (eqb-true (label_of constants i) none e))
            (λ e. inr (ltb-true (label_of constants i) labels e))
            (or_by (eqb (label_of constants i) none) (ltb (label_of constants i) labels) a.1),
      )

  pub constants_sound : n * constant_size ≤ length constants → n ≤ most_entries → constants_fit constants n labels ≡ true → ConstantsSound constants n labels
  constants_sound room limit h =
      record { room = omega arith; limit = limit; entry = λ i l. let a = constant_at_lem i h l in record { size = a.0; label = a.1 } }

  pub constants_fit_lem : ConstantsSound constants n labels → constants_fit constants n labels ≡ true
  unfolding constants_fit constant_fits
  constants_fit_lem s =
      all_of (constant_fits constants labels) n
      (λ i l.
      let e = s.entry i l in
      and_by (leb (word_at constants (i * constant_words)) 64) (eqb (label_of constants i) none || ltb (label_of constants i) labels) (le-leb (word_at constants (i * constant_words)) 64 e.size)
      (⊎_elim
      (λ q. or_first (eqb (label_of constants i) none) (ltb (label_of constants i) labels) (eq-eqb (label_of constants i) none q))
      (λ q. or_second (eqb (label_of constants i) none) (ltb (label_of constants i) labels) (lt-ltb (label_of constants i) labels q))
      e.label))

  -- what the order of asking is handed
  pub constants_labelled : n * constant_size ≤ length constants → constants_fit constants n labels ≡ true → Labelled constants n labels
  constants_labelled room h = record { room = room; label = λ i l has. ⊎_elim (λ e. absurd (has e)) (λ e. e) (constant_at_lem i h l).1 }

module _ (asked : List ℕ) (n : ℕ) (constants : List ℕ) (known : ℕ) where
  pub asked_sound : n * asked_size ≤ length asked → order_fits asked n constants known ≡ true → AskedSound asked n constants known
  unfolding order_fits asked_fits asked_once is_asked
  asked_sound room h =
      let a = both_true (all (new_at asked constants known) n) (all (λ (k : ℕ). eqb (label_of constants k) none || is_asked asked n k) known) h in
      record {
        room = omega arith;
        listed = λ i l.
            let e = (both_true (asked_fits asked constants known i) (asked_once asked constants i) (all_at (new_at asked constants known) n i a.0 l)).0 in
            let f = both_true (ltb (word_at asked i) known) (not (eqb (label_of constants (word_at asked i)) none)) e in (
              ltb-true (word_at asked i) known f.0,
              eqb-false (label_of constants (word_at asked i)) none (not-true (eqb (label_of constants (word_at asked i)) none) f.1),
            );
        once = λ i j l m.
            let e = (both_true (asked_fits asked constants known j) (asked_once asked constants j) (all_at (new_at asked constants known) n j a.0 m)).1 in
            let f =
            both_true (not (eqb (word_at asked i) (word_at asked j))) (not (eqb (label_of constants (word_at asked i)) (label_of constants (word_at asked j))))
            (all_at
            (λ (k : ℕ). not (eqb (word_at asked k) (word_at asked j)) && not (eqb (label_of constants (word_at asked k)) (label_of constants (word_at asked j))))
            j
            i
            e
            l)
            in (
              eqb-false (word_at asked i) (word_at asked j) (not-true (eqb (word_at asked i) (word_at asked j)) f.0),
              eqb-false
                  (label_of constants (word_at asked i))
                  (label_of constants (word_at asked j))
                  (not-true (eqb (label_of constants (word_at asked i)) (label_of constants (word_at asked j))) f.1),
            );
        all = λ k l has.
            ⊎_elim
            (λ e. absurd (has (eqb-true (label_of constants k) none e)))
            (λ e.
            let w = all_not (λ (i : ℕ). not (eqb (word_at asked i) k)) n (not-true (all (λ (i : ℕ). not (eqb (word_at asked i) k)) n) e) in
            (w.0, w.1, eqb-true (word_at asked w.0) k (not-false (eqb (word_at asked w.0) k) w.2)))
            (or_by (eqb (label_of constants k) none) (is_asked asked n k) (all_at (λ (i : ℕ). eqb (label_of constants i) none || is_asked asked n i) known k a.1 l));
      }

  pub order_fits_lem : AskedSound asked n constants known → order_fits asked n constants known ≡ true
  unfolding order_fits asked_fits asked_once is_asked
  order_fits_lem s =
      and_by (all (new_at asked constants known) n) (all (λ (k : ℕ). eqb (label_of constants k) none || is_asked asked n k) known)
      (all_of (new_at asked constants known) n
      (λ j l.
      let e = s.listed j l in
      and_by (asked_fits asked constants known j) (asked_once asked constants j)
      (rw (lt-ltb (word_at asked j) known e.0, ne_eqb (label_of constants (word_at asked j)) none e.1))
      (all_of
      (λ (k : ℕ). not (eqb (word_at asked k) (word_at asked j)) && not (eqb (label_of constants (word_at asked k)) (label_of constants (word_at asked j))))
      j
      (λ i m.
      let o = s.once i j m l in
      rw (
        ne_eqb (word_at asked i) (word_at asked j) o.0,
        ne_eqb (label_of constants (word_at asked i)) (label_of constants (word_at asked j)) o.1,
      )))))
      (all_of (λ (k : ℕ). eqb (label_of constants k) none || is_asked asked n k) known
      (λ k l.
      ⊎_elim
      (λ e. or_first (eqb (label_of constants k) none) (is_asked asked n k) (eq-eqb (label_of constants k) none e))
      (λ has.
      let w = s.all k l has in
      or_second (eqb (label_of constants k) none) (is_asked asked n k)
      (rw (all_fails (λ (i : ℕ). not (eqb (word_at asked i) k)) n w.0 w.1 (rw (eq-eqb (word_at asked w.0) k w.2)))))
      (eq_or_ne (label_of constants k) none)))
