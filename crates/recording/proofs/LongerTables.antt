-- A recording whose tables are replaced by longer ones, the counted entries the same, stays sound, and as much of it is open.
use mathlib.Core.Path.{◌≡◌, sym, ap, ◌∙◌}
use mathlib.Core.Logic.{inl, inr, ⊎_elim}
use mathlib.Core.List.{List}
use Prim.Native.Nat.{ℕ, ◌+◌, ◌*◌, ◌≤◌, ◌<◌}
use native.Mathlib.Omega.{arith}
use lib.ListN.{get_or}
use lib.Seq.{get_or-take}
use Rattle.words.specs.Words.{word_at}
use Rattle.relax.specs.Events.{event_at, event_words, event_size}
use Rattle.buffer.specs.Tables.{label_size, use_words, use_size, ref_words, ref_size, constant_words, constant_size, asked_size, reloc_words, reloc_size}
use Rattle.recording.specs.Calls.{Recording}
use Rattle.recording.specs.Sequences.{Extends, Grown}
use Rattle.recording.specs.View.{use_at, ref_at, reloc_at, view}
use Rattle.recording.specs.Open.{naming, open_of}
use Rattle.recording.proofs.Views.{entries_same}
use Rattle.recording.specs.Sound.{
  start_at,
  end_at,
  LabelSound,
  LabelsSound,
  EventsSound,
  UsesSound,
  RefsSound,
  RelocsSound,
  ConstantsSound,
  label_of,
  AskedSound,
  Sound,
}

-- the words of counted entries are the same
module _ {n : ℕ} {t u : List ℕ} (x : Extends n t u) where
  byte_same : (i : ℕ) → i < n → get_or u i 0 ≡ get_or t i 0
  byte_same i h = sym (get_or-take n u i 0 h) ∙ (ap (λ (l : List ℕ). get_or l i 0) x.same ∙ get_or-take n t i 0 h)

  word_same : (k : ℕ) → k * 4 + 4 ≤ n → word_at u k ≡ word_at t k
  unfolding word_at
  word_same k h =
      rw (
        byte_same (k * 4) (omega arith),
        byte_same (k * 4 + 1) (omega arith),
        byte_same (k * 4 + 2) (omega arith),
        byte_same (k * 4 + 3) (omega arith),
      )

module _ {m : ℕ} {events grown : List ℕ} (x : Extends (m * event_size) events grown) where
  start_same : (j : ℕ) → j < m → start_at grown j ≡ start_at events j
  start_same j h = word_same x (j * event_words + 1) (omega arith)

  end_same : (j : ℕ) → j < m → end_at grown j ≡ end_at events j
  end_same j h = rw (word_same x (j * event_words + 1) (omega arith), word_same x (j * event_words + 2) (omega arith))

  label_grown : (code offset : ℕ) → LabelSound events m code offset → LabelSound grown m code offset
  label_grown code offset =
      ⊎_elim
      (λ unbound. inl unbound)
      (λ bound. inr (bound.0, λ j h. rw (word_same x (j * event_words + 1) (omega arith), word_same x (j * event_words + 2) (omega arith)) (bound.1 j h)))

  labels_grown : {n code : ℕ} {t u : List ℕ} → Extends (n * label_size) t u → LabelsSound t n events m code → LabelsSound u n grown m code
  labels_grown {code = code} {t = t} y s =
      record {
        room = omega (arith, s.room, y.longer);
        limit = s.limit;
        entry = λ i h. rw (word_same y i (omega arith)) (label_grown code (word_at t i) (s.entry i h));
      }

  events_grown : {labels code arch : ℕ} → EventsSound events m labels code arch → EventsSound grown m labels code arch
  events_grown s =
      record {
        room = omega (arith, s.room, x.longer);
        tracked = s.tracked;
        entry = λ j h.
            let e = s.entry j h in
            record {
              form =
                  rw (
                    word_same x (j * event_words) (omega arith),
                    word_same x (j * event_words + 1) (omega arith),
                    word_same x (j * event_words + 2) (omega arith),
                    word_same x (j * event_words + 3) (omega arith),
                    word_same x (j * event_words + 4) (omega arith),
                  )
                  e.form;
              ends = rw (end_same j h) e.ends;
              follows = λ i l. rw (end_same i (omega arith), start_same j h) (e.follows i l);
            };
      }

uses_grown : {n arch labels : ℕ} {t u : List ℕ} → Extends (n * use_size) t u → UsesSound t n arch labels → UsesSound u n arch labels
uses_grown x s =
    record {
      room = omega (arith, s.room, x.longer);
      entry = λ i h.
          let e = s.entry i h in
          let code = word_same x (i * use_words + 2) (omega arith) in
          record {
            code = rw code e.code;
            patched = rw code e.patched;
            native = rw code e.native;
            label = rw (word_same x (i * use_words + 1) (omega arith)) e.label;
          };
    }

refs_grown : {n arch labels : ℕ} {t u : List ℕ} → Extends (n * ref_size) t u → RefsSound t n arch labels → RefsSound u n arch labels
refs_grown x s =
    record {
      room = omega (arith, s.room, x.longer);
      tracked = s.tracked;
      entry = λ i h.
          let e = s.entry i h in
          record {
            native = rw (word_same x (i * ref_words + 2) (omega arith)) e.native;
            label = rw (word_same x (i * ref_words + 1) (omega arith)) e.label;
          };
    }

relocs_grown : {n arch symbols labels : ℕ} {t u : List ℕ} → Extends (n * reloc_size) t u → RelocsSound t n arch symbols labels
    → RelocsSound u n arch symbols labels
relocs_grown x s =
    record {
      room = omega (arith, s.room, x.longer);
      entry = λ i h.
          let e = s.entry i h in
          let kind = word_same x (i * reloc_words + 1) (omega arith) in
          record {
            offset = rw (word_same x (i * reloc_words) (omega arith)) e.offset;
            kind = rw kind e.kind;
            native = rw kind e.native;
            target = rw (word_same x (i * reloc_words + 2) (omega arith)) e.target;
          };
    }

module _ {known : ℕ} {constants grown : List ℕ} (x : Extends (known * constant_size) constants grown) where
  its_label : (i : ℕ) → i < known → label_of grown i ≡ label_of constants i
  its_label i h = word_same x (i * constant_words + 1) (omega arith)

  constants_grown : {labels : ℕ} → ConstantsSound constants known labels → ConstantsSound grown known labels
  constants_grown s =
      record {
        room = omega (arith, s.room, x.longer);
        limit = s.limit;
        entry = λ i h.
            let e = s.entry i h in
            record { size = rw (word_same x (i * constant_words) (omega arith)) e.size; label = rw (its_label i h) e.label };
      }

  asked_grown : {n : ℕ} {t u : List ℕ} → Extends (n * asked_size) t u → AskedSound t n constants known → AskedSound u n grown known
  asked_grown {n = n} {t = t} {u = u} y s =
      let same : (i : ℕ) → i < n → word_at u i ≡ word_at t i = λ i h. word_same y i (omega arith) in
      record {
        room = omega (arith, s.room, y.longer);
        listed = λ i h. let l = s.listed i h in rw (same i h, its_label (word_at t i) l.0) l;
        once = λ i j h l.
            let li = s.listed i (omega arith) in
            let lj = s.listed j l in
            rw (same i (omega arith), same j l, its_label (word_at t i) li.0, its_label (word_at t j) lj.0) (s.once i j h l);
        all = λ c h labelled.
            let found = s.all c h (λ e. labelled (its_label c h ∙ e)) in (found.0, found.1, rw (same found.0 found.1) found.2);
      }

-- Growth keeps a recording sound.
pub keeps_growth : (r s : Recording) → Grown r s → Sound r → Sound s
keeps_growth r s g sound =
    rw g.counts
    (record {
      code = record { room = omega (arith, sound.code.room, g.code.longer); limit = sound.code.limit };
      labels = labels_grown g.events g.labels sound.labels;
      events = events_grown g.events sound.events;
      uses = uses_grown g.uses sound.uses;
      refs = refs_grown g.refs sound.refs;
      constants = constants_grown g.constants sound.constants;
      asked = asked_grown g.constants g.asked sound.asked;
      relocs = relocs_grown g.relocs sound.relocs;
    })

-- Growth opens nothing: the entries that name labels are the same, and the labels.
pub grown_open : (r s : Recording) → Grown r s → open_of (view s) ≡ open_of (view r)
unfolding naming event_at
grown_open r s g =
    rw (
      g.counts,
      entries_same (word_at s.labels) (word_at r.labels) r.buffer.labels (λ i h. word_same g.labels i (omega arith)),
      entries_same (use_at s.uses) (use_at r.uses) r.buffer.uses
          (λ i h.
          rw (
            word_same g.uses (i * use_words) (omega arith),
            word_same g.uses (i * use_words + 1) (omega arith),
            word_same g.uses (i * use_words + 2) (omega arith),
          )),
      entries_same (ref_at s.refs) (ref_at r.refs) r.buffer.refs
          (λ i h.
          rw (
            word_same g.refs (i * ref_words) (omega arith),
            word_same g.refs (i * ref_words + 1) (omega arith),
            word_same g.refs (i * ref_words + 2) (omega arith),
            word_same g.refs (i * ref_words + 3) (omega arith),
          )),
      entries_same (reloc_at s.relocs) (reloc_at r.relocs) r.buffer.relocs
          (λ i h.
          rw (
            word_same g.relocs (i * reloc_words) (omega arith),
            word_same g.relocs (i * reloc_words + 1) (omega arith),
            word_same g.relocs (i * reloc_words + 2) (omega arith),
            word_same g.relocs (i * reloc_words + 4) (omega arith),
            word_same g.relocs (i * reloc_words + 5) (omega arith),
          )),
      entries_same (event_at s.events) (event_at r.events) r.buffer.events
          (λ i h.
          rw (
            word_same g.events (i * event_words) (omega arith),
            word_same g.events (i * event_words + 1) (omega arith),
            word_same g.events (i * event_words + 2) (omega arith),
            word_same g.events (i * event_words + 3) (omega arith),
            word_same g.events (i * event_words + 4) (omega arith),
          )),
    )
