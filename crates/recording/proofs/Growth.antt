-- More labels or more code make no entry unsound.
use mathlib.Core.Logic.{inl, inr, ⊎_elim}
use mathlib.Core.List.{List}
use Prim.Native.Nat.{ℕ, ◌≤◌}
use native.Mathlib.Omega.{arith}
use Rattle.recording.specs.Sound.{LabelsSound, EventForm, EventsSound, UsesSound, RefsSound, Target, RelocsSound, ConstantsSound}

pub more_code_labels : (t : List ℕ) (n : ℕ) (e : List ℕ) (m code code' : ℕ) → code ≤ code' → LabelsSound t n e m code → LabelsSound t n e m code'
more_code_labels t n e m code code' h s =
    record {
      room = s.room;
      limit = s.limit;
      entry = λ i l. ⊎_elim (λ u. inl u) (λ b. inr (omega arith, b.1)) (s.entry i l);
    }

pub more_code_events : (t : List ℕ) (n labels code code' arch : ℕ) → code ≤ code' → EventsSound t n labels code arch → EventsSound t n labels code' arch
more_code_events t n labels code code' arch h s =
    record {
      room = s.room;
      tracked = s.tracked;
      entry = λ j l. let e = s.entry j l in record { form = e.form; ends = omega arith; follows = e.follows };
    }

module _ (labels labels' : ℕ) (h : labels ≤ labels') where
  more_labels_form : (t : List ℕ) (j : ℕ) → EventForm t labels j → EventForm t labels' j
  more_labels_form t j f = ⊎_elim (λ x. inl (x.0, x.1, x.2, omega (arith, x.3), x.4)) (λ x. inr x) f

  pub more_labels_events : (t : List ℕ) (n code arch : ℕ) → EventsSound t n labels code arch → EventsSound t n labels' code arch
  more_labels_events t n code arch s =
      record {
        room = s.room;
        tracked = s.tracked;
        entry = λ j l. let e = s.entry j l in record { form = more_labels_form t j e.form; ends = e.ends; follows = e.follows };
      }

  pub more_labels_uses : (t : List ℕ) (n arch : ℕ) → UsesSound t n arch labels → UsesSound t n arch labels'
  more_labels_uses t n arch s =
      record {
        room = s.room;
        entry = λ i l. let e = s.entry i l in record { code = e.code; patched = e.patched; native = e.native; label = omega (arith, e.label) };
      }

  pub more_labels_refs : (t : List ℕ) (n arch : ℕ) → RefsSound t n arch labels → RefsSound t n arch labels'
  more_labels_refs t n arch s =
      record {
        room = s.room;
        tracked = s.tracked;
        entry = λ i l. let e = s.entry i l in record { native = e.native; label = omega (arith, e.label) };
      }

  more_labels_target : (symbols target : ℕ) → Target symbols labels target → Target symbols labels' target
  more_labels_target symbols target t = ⊎_elim (λ x. inl x) (λ x. inr (x.0, omega (arith, x.1))) t

  pub more_labels_relocs : (t : List ℕ) (n arch symbols : ℕ) → RelocsSound t n arch symbols labels → RelocsSound t n arch symbols labels'
  more_labels_relocs t n arch symbols s =
      record {
        room = s.room;
        entry = λ i l. let e = s.entry i l in record { offset = e.offset; kind = e.kind; native = e.native; target = more_labels_target symbols _ e.target };
      }

  pub more_labels_constants : (t : List ℕ) (n : ℕ) → ConstantsSound t n labels → ConstantsSound t n labels'
  more_labels_constants t n s =
      record {
        room = s.room;
        limit = s.limit;
        entry = λ i l. let e = s.entry i l in record { size = e.size; label = ⊎_elim (λ u. inl u) (λ k. inr (omega arith)) e.label };
      }
