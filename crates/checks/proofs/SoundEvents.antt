-- Events that fit are sound, and sound ones fit. They are in order.
use mathlib.Core.Path.{◌≡◌, refl, ◌∙◌}
use mathlib.Core.Logic.{◌⊎◌, inl, inr, ⊎_elim}
use mathlib.Core.Bool.{Bool, true, false, ◌&&◌, ◌||◌}
use mathlib.Core.List.{List}
use Prim.Native.Nat.{ℕ, zero, suc, ◌+◌, ◌-◌, ◌*◌, ◌≤◌, ◌<◌}
use native.Mathlib.Nat.{not-suc-le-zero}
use native.Mathlib.Omega.{arith}
use borrow.Author.Tests.{eq-eqb, le-leb, lt-ltb, eqb-true, leb-true, ltb-true}
use lib.Dec.{eqb, leb, ltb}
use lib.ListN.{length}
use Rattle.seqs.proofs.Numbers.{eq_or_ne}
use Rattle.seqs.proofs.Booleans.{both_true}
use Rattle.seqs.proofs.Picking.{yes_eq, no_eq}
use Rattle.words.specs.Words.{word_at}
use Rattle.encoder.specs.Padding.{padding_within}
use Rattle.relax.specs.Events.{event_at, end_of, event_words, event_size}
use Rattle.relax.proofs.Columns.{end_at_lem}
use Rattle.buffer.specs.State.{keeps_events}
use Rattle.buffer.specs.Refusals.{is_alignment, last_end}
use Rattle.recording.specs.Sound.{start_at, end_at, FormOf, EventSound, EventsSound}
use Rattle.seqs.specs.Every.{all}
use Rattle.checks.specs.Entries.{form_fits, event_fits, kept_only, events_fit}
use Rattle.checks.specs.steps.Search.{Ordered}
use Rattle.seqs.proofs.Every.{all_at, all_of}

-- `&&` and `||`
pub and_by : (a b : Bool) → a ≡ true → b ≡ true → (a && b) ≡ true
and_by a b h k = rw (h, k)

pub or_by : (a b : Bool) → (a || b) ≡ true → (a ≡ true) ⊎ (b ≡ true)
or_by true b h = inl refl
or_by false b h = inr h

pub or_first : (a b : Bool) → a ≡ true → (a || b) ≡ true
or_first a b h = rw h

pub or_second : (a b : Bool) → b ≡ true → (a || b) ≡ true
or_second true b h = refl
or_second false b h = h

module _ (labels kind start len what how : ℕ) where
  form_sound : form_fits labels kind start len what how ≡ true → FormOf labels kind start len what how
  unfolding form_fits
  form_sound h =
      ⊎_elim
      (λ j.
      let a = both_true (eqb kind 1) (leb 2 len && leb len 15 && (ltb what labels && leb how 16)) j in
      let b = both_true (leb 2 len && leb len 15) (ltb what labels && leb how 16) a.1 in
      let l = both_true (leb 2 len) (leb len 15) b.0 in
      let d = both_true (ltb what labels) (leb how 16) b.1 in
      inl (eqb-true kind 1 a.0, leb-true 2 len l.0, leb-true len 15 l.1, ltb-true what labels d.0, leb-true how 16 d.1))
      (λ j.
      let a = both_true (eqb kind 2) (is_alignment what && eqb len (padding_within start what how)) j in
      let b = both_true (is_alignment what) (eqb len (padding_within start what how)) a.1 in
      inr (eqb-true kind 2 a.0, b.0, eqb-true len (padding_within start what how) b.1))
      (or_by
      (eqb kind 1 && (leb 2 len && leb len 15 && (ltb what labels && leb how 16)))
      (eqb kind 2 && (is_alignment what && eqb len (padding_within start what how)))
      h)

  form_fits_lem : FormOf labels kind start len what how → form_fits labels kind start len what how ≡ true
  unfolding form_fits
  form_fits_lem f =
      ⊎_elim
      (λ j. rw (eq-eqb kind 1 j.0, le-leb 2 len j.1, le-leb len 15 j.2, lt-ltb what labels j.3, le-leb how 16 j.4))
      (λ j.
      rw (eq-eqb kind 2 j.0, j.1, eq-eqb len (padding_within start what how) j.2)
      (or_second (eqb kind 1 && (leb 2 len && leb len 15 && (ltb what labels && leb how 16))) true refl))
      f

last_end_at : (events : List ℕ) (j : ℕ) → last_end events (suc j) ≡ end_at events j
unfolding last_end
last_end_at events j =
    let same : suc j - 1 ≡ j = omega arith in
    no_eq (suc j) 0 0 (end_of (event_at events (suc j - 1))) (λ e. omega arith) ∙ rw same (end_at_lem events j)

last_end_none : (events : List ℕ) → last_end events 0 ≡ 0
unfolding last_end
last_end_none events = yes_eq 0 0 _ _ refl

module _ (events : List ℕ) (labels code : ℕ) where
  record Event (j : ℕ) : Type 0 where
    form : form_fits labels (word_at events (j * event_words)) (word_at events (j * event_words + 1)) (word_at events (j * event_words + 2)) (word_at events (j * event_words + 3)) (word_at events (j * event_words + 4)) ≡ true
    ends : end_at events j ≤ code
    follows : last_end events j ≤ start_at events j

  event_at_lem : (n j : ℕ) → all (event_fits events labels code) n ≡ true → j < n → Event j
  unfolding event_fits
  event_at_lem n j h l =
      let a = both_true (form_fits labels (word_at events (j * event_words)) (word_at events (j * event_words + 1)) (word_at events (j * event_words + 2)) (word_at events (j * event_words + 3)) (word_at events (j * event_words + 4))) _ (all_at (event_fits events labels code) n j h l) in
      let b = both_true (leb (end_at events j) code) (leb (last_end events j) (start_at events j)) a.1 in
      record { form = a.0; ends = leb-true (end_at events j) code b.0; follows = leb-true (last_end events j) (start_at events j) b.1 }

  follows_all : (n i j : ℕ) → all (event_fits events labels code) n ≡ true → i < j → j < n → end_at events i ≤ start_at events j
  follows_all n i zero h l m = absurd (not-suc-le-zero l)
  follows_all n i (suc j) h l m =
      let next : end_at events j ≤ start_at events (suc j) = rw (last_end_at events j) at (event_at_lem n (suc j) h m).follows in
      ⊎_elim
      (λ (same : i ≡ j). rw same next)
      (λ other. omega (arith, follows_all n i j h (omega arith) (omega arith), next))
      (eq_or_ne i j)

kept_sound : (arch n : ℕ) → kept_only arch n ≡ true → (keeps_events arch ≡ true) ⊎ (n ≡ 0)
unfolding kept_only
kept_sound arch n h = ⊎_elim (λ e. inl e) (λ e. inr (eqb-true n 0 e)) (or_by (keeps_events arch) (eqb n 0) h)

kept_fits : (arch n : ℕ) → (keeps_events arch ≡ true) ⊎ (n ≡ 0) → kept_only arch n ≡ true
unfolding kept_only
kept_fits arch n h = ⊎_elim (λ e. or_first (keeps_events arch) (eqb n 0) e) (λ e. or_second (keeps_events arch) (eqb n 0) (eq-eqb n 0 e)) h

pub kept : (arch n : ℕ) (t : Bool) → (kept_only arch n && t) ≡ true → ((keeps_events arch ≡ true) ⊎ (n ≡ 0)) × (t ≡ true)
kept arch n t h = let a = both_true (kept_only arch n) t h in (kept_sound arch n a.0, a.1)

pub keeps : (arch n : ℕ) (t : Bool) → (keeps_events arch ≡ true) ⊎ (n ≡ 0) → t ≡ true → (kept_only arch n && t) ≡ true
keeps arch n t h e = and_by (kept_only arch n) t (kept_fits arch n h) e

pub events_ordered : (arch : ℕ) (events : List ℕ) (n labels code : ℕ) → events_fit arch events n labels code ≡ true → Ordered (start_at events) (end_at events) n
unfolding events_fit
events_ordered arch events n labels code h =
    let a = (kept arch n (all (event_fits events labels code) n) h).1 in
    record { forward = λ j l. omega arith; order = λ i j l m. follows_all events labels code n i j a l m }

pub events_sound : (arch : ℕ) (events : List ℕ) (n labels code : ℕ) → n * event_size ≤ length events → events_fit arch events n labels code ≡ true → EventsSound events n labels code arch
unfolding events_fit
events_sound arch events n labels code room h =
    let a = kept arch n (all (event_fits events labels code) n) h in
    record {
      room = omega arith;
      tracked = a.0;
      entry = λ j l.
          let e = event_at_lem events labels code n j a.1 l in
          record {
            form = form_sound labels (word_at events (j * event_words)) (word_at events (j * event_words + 1)) (word_at events (j * event_words + 2)) (word_at events (j * event_words + 3)) (word_at events (j * event_words + 4)) e.form;
            ends = e.ends;
            follows = λ i m. follows_all events labels code n i j a.1 m l;
          };
    }

follows_last : (events : List ℕ) (labels code j : ℕ) → EventSound events labels code j → last_end events j ≤ start_at events j
follows_last events labels code zero s = rw (last_end_none events) (omega arith)
follows_last events labels code (suc j) s = rw (last_end_at events j) (s.follows j (omega arith))

pub events_fit_lem : (arch : ℕ) (events : List ℕ) (n labels code : ℕ) → EventsSound events n labels code arch → events_fit arch events n labels code ≡ true
unfolding events_fit event_fits
events_fit_lem arch events n labels code s =
    keeps arch n (all (event_fits events labels code) n) s.tracked
    (all_of (event_fits events labels code) n
    (λ j l.
    let e = s.entry j l in
    rw (
      form_fits_lem labels (word_at events (j * event_words)) (word_at events (j * event_words + 1)) (word_at events (j * event_words + 2)) (word_at events (j * event_words + 3)) (word_at events (j * event_words + 4)) e.form,
      le-leb (end_at events j) code e.ends,
      le-leb (last_end events j) (start_at events j) (follows_last events labels code j e),
    )))
