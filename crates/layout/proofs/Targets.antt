-- The targets of jumps in their rows.
use mathlib.Core.Path.{◌≡◌, sym, ◌∙◌, ap, subst}
use mathlib.Core.Logic.{⊎_elim}
use mathlib.Core.List.{List}
use Prim.Native.Nat.{ℕ, ◌+◌, ◌≤◌, ◌<◌}
use native.Mathlib.Omega.{arith}
use lib.ListN.{length, get_or, set, length-set}
use lib.Seq.{get_or-set_same, get_or-set_other}
use Rattle.seqs.proofs.Numbers.{eq_or_ne}
use Rattle.relax.specs.declared.LayoutEvent.{LayoutEvent}
use Rattle.relax.specs.declared.Segment.{Segment}
use Rattle.relax.specs.Events.{event_at, start_of, no_event}
use Rattle.buffer.specs.State.{none}
use Rattle.fresh.specs.Forms.{Branch, pads, branches, role_of}
use Rattle.fresh.specs.Fresh.{Choice}
use Rattle.layout.specs.steps.Layout.{zero_segment, start_at}
use Rattle.layout.specs.steps.Targets.{Shown, Finds, Aims, Aiming, with_target, Placed}

-- The target of an event, found or none.
pub aims_branch : {es : List LayoutEvent} {at : ℕ → ℕ} {e : LayoutEvent} (b : Branch) {passed beyond : ℕ} → role_of e ≡ branches b → Finds es (at b.label) passed beyond → Aims es at e passed beyond
aims_branch {es} {at} b {passed} {beyond} r f = record {
  rests = λ p. let q : branches b ≡ pads = sym r ∙ p in let z : ◌≡◌ {A = ℕ} 0 1 = cc in absurd (omega arith);
  finds = λ b' r'. let q : branches b ≡ branches b' = sym r ∙ r' in let is : b ≡ b' = cc in rw (← is) f;
}

pub aims_none : {es : List LayoutEvent} {at : ℕ → ℕ} {e : LayoutEvent} {passed beyond : ℕ} → role_of e ≡ pads → passed ≡ none → Aims es at e passed beyond
aims_none p n = record {
  rests = λ q. n;
  finds = λ b r. let q : branches b ≡ pads = sym r ∙ p in let z : ◌≡◌ {A = ℕ} 0 1 = cc in absurd (omega arith);
}

-- The targets of the first i events stand in their rows, and the table is still searched.
pub record Targeted (es : List LayoutEvent) (at : ℕ → ℕ) (events : List ℕ) (n all i : ℕ) (ss : List Segment) : Type 0 where
  pub shown : Shown es ss events n all
  pub aims : (j : ℕ) → j < i → Aims es at (event_at events j) (get_or ss j zero_segment).new_start (get_or ss j zero_segment).old_end

pub targeted_none : {es : List LayoutEvent} {at : ℕ → ℕ} {events : List ℕ} {n all : ℕ} {ss : List Segment} → Shown es ss events n all → Targeted es at events n all 0 ss
targeted_none shown = record { shown = shown; aims = λ j h. absurd (omega arith) }

pub targeted_more : {es : List LayoutEvent} {at : ℕ → ℕ} {events : List ℕ} {n all i : ℕ} {ss : List Segment} → Targeted es at events n all i ss → i < n → n ≤ all
    → (passed beyond : ℕ) → Aims es at (event_at events i) passed beyond → Targeted es at events n all (i + 1) (set ss i (with_target (get_or ss i zero_segment) passed beyond))
targeted_more {es} {at} {events} {n} {all} {i} {ss} t h k passed beyond aims =
    let shown = t.shown in
    let row = with_target (get_or ss i zero_segment) passed beyond in
    let room : i < length ss = omega (arith, shown.fits) in
    let same = get_or-set_same ss i row zero_segment room in
    record {
      shown = record {
        count = shown.count;
        few = shown.few;
        fits = omega (arith, shown.fits, length-set ss i row);
        room = shown.room;
        len = shown.len;
        ordered = shown.ordered;
        small = shown.small;
        recorded = shown.recorded;
        starts = λ j l. ⊎_elim
            (λ e. ap (start_at (set ss i row)) e ∙ (ap (λ (s : Segment). s.old_start) same ∙ (shown.starts i (omega arith) ∙ ap (λ (x : ℕ). start_of (get_or es x no_event)) (sym e))))
            (λ ne. ap (λ (s : Segment). s.old_start) (get_or-set_other ss i j row zero_segment ne) ∙ shown.starts j l)
            (eq_or_ne j i);
        ends = λ j g l. ap (λ (s : Segment). s.old_end) (get_or-set_other ss i j row zero_segment (λ e. omega (arith, e))) ∙ shown.ends j g l;
      };
      aims = λ j l. ⊎_elim
          (λ e. subst (λ (x : ℕ). Aims es at (event_at events x) (get_or (set ss i row) x zero_segment).new_start (get_or (set ss i row) x zero_segment).old_end) (sym e)
          (subst (λ (s : Segment). Aims es at (event_at events i) s.new_start s.old_end) (sym same) aims))
          (λ ne. rw (get_or-set_other ss i j row zero_segment ne) (t.aims j (omega (arith, ne))))
          (eq_or_ne j i);
    }

-- The targets stay where they are.
pub aiming_stays : {es : List LayoutEvent} {at : ℕ → ℕ} {events : List ℕ} {n : ℕ} {before ss : List Segment} {c : Choice} → Aiming es at events n before → Placed before ss es n c
    → Aiming es at events n ss
aiming_stays {es} {at} {events} {before = before} {ss} q p = record {
  aims = λ i h.
      subst (λ (x : ℕ). Aims es at (event_at events i) x (get_or ss i zero_segment).old_end) (sym (p.passed i h))
      (subst (λ (x : ℕ). Aims es at (event_at events i) (get_or before i zero_segment).new_start x) (sym (p.beyond i h)) (q.aims i h));
}
