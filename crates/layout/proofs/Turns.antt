-- A turn of the layout: the next event follows, its sums fit, and its row joins those before.
use mathlib.Core.Path.{◌≡◌, refl, sym, ◌∙◌, ap}
use mathlib.Core.Logic.{⊎_elim}
use mathlib.Core.Bool.{false}
use mathlib.Core.List.{List, [], ◌∷◌, ◌++◌}
use Prim.Native.Nat.{ℕ, ◌+◌, ◌-◌, ◌*◌, ◌≤◌, ◌<◌}
use native.Mathlib.Numerals.{add-one}
use native.Mathlib.Omega.{arith}
use lib.ListN.{length, get_or, set}
use lib.Seq.{get_or-set_same, get_or-set_other}
use Rattle.seqs.proofs.Numbers.{eq_or_ne}
use Rattle.relax.specs.declared.LayoutEvent.{LayoutEvent}
use Rattle.relax.specs.declared.Segment.{Segment}
use Rattle.relax.specs.Events.{event_at, end_of, no_event}
use Rattle.buffer.specs.Tables.{most_entries}
use Rattle.recording.specs.View.{entries}
use Rattle.recording.proofs.Views.{length_entries, get_d_entries}
use Rattle.fresh.specs.Fresh.{Choice, others}
use Rattle.fresh.specs.Segments.{segment, segments}
use Rattle.fresh.specs.steps.Runs.{Cursor, after, segment_at}
use Rattle.fresh.proofs.Choices.{is_long_get_d, others_get_d}
use Rattle.fresh.proofs.Loops.{length_segments, segments_get_d, after_suc, after_start_lem, after_le, modest_at}
use Rattle.pool.specs.steps.Pool.{offset_bound}
use Rattle.layout.specs.steps.Layout.{zero_segment, Follows, Recorded, Laid}
use Rattle.layout.specs.steps.Targets.{with_end, ended_row, Ended, Kept}
use Rattle.layout.proofs.SamePast.{same_past_none, same_past_more, same_past_grow, same_past_set, same_past_is}

-- One event more.
pub after_snoc : (es : List LayoutEvent) (o n : ℕ) (c : Choice) (e : LayoutEvent)
    → after (length (es ++ (e ∷ []))) o n (es ++ (e ∷ [])) c
    ≡ record {
      old = end_of e;
      new = (segment (after (length es) o n es c).old (after (length es) o n es c).new e (get_or c (length es) false)).new_end;
    }
unfolding after
after_snoc [] o n c e = rw (is_long_get_d c) refl
after_snoc (x ∷ es) o n c e = after_snoc es (end_of x) _ (others c) e ∙ rw (others_get_d c (length es)) refl

-- The rows of the first i events.
pub kept_none : {kept : Segment → Segment → Segment → Type 0} {before : List Segment} {es : List LayoutEvent} {c : Choice} → Kept kept before before es c 0 0 0
unfolding after
kept_none {before = before} = record { rows = λ j h. absurd (omega arith); rest = same_past_none 0 before; here = refl }

module _ {kept : Segment → Segment → Segment → Type 0} {before ss : List Segment} {events : List ℕ} {n code : ℕ} {c : Choice} {i old new : ℕ} (rec : Recorded events n code)
    (few : n ≤ most_entries) (q : Kept kept before ss (entries (event_at events) n) c i old new) where
  es : List LayoutEvent
  es = entries (event_at events) n

  module _ (h : i < n) where
    within : i < length es
    unfolding es
    within = omega (arith, length_entries (event_at events) n)

    pub kept_follows : Follows (event_at events i) old new
    unfolding es within
    kept_follows =
        let e : get_or es i no_event ≡ event_at events i = get_d_entries (event_at events) n i no_event h in
        let start = after_start_lem es 0 0 code c i rec.ordered within in
        let a = ap (λ (x : Cursor). x.old) q.here in
        let b = ap (λ (x : Cursor). x.new) q.here in
        let sum = after_le es 0 0 code c i rec.modest rec.ordered (omega (arith, within)) in
        rw (← e)
        record {
          order = omega (arith, start, a);
          modest = modest_at es i rec.modest within;
          ends = omega (arith, start, rec.small);
          small = omega (arith, start, rec.small, sum, a, b);
        }

    pub kept_more : n ≤ length before → (s row : Segment) → s ≡ segment old new (event_at events i) (get_or c i false) → kept (get_or ss i zero_segment) s row
        → Kept kept before (set ss i row) (entries (event_at events) n) c (i + 1) s.old_end s.new_end
    unfolding es within segment_at
    kept_more room s row e k =
        let event : get_or es i no_event ≡ event_at events i = get_d_entries (event_at events) n i no_event h in
        let here : segment_at i 0 0 es c ≡ s = rw (event, q.here, e) refl in
        let same = get_or-set_same ss i row zero_segment (omega (arith, q.rest.sized)) in
        record {
          rows = λ j l. ⊎_elim
              (λ e. rw (e, same, ← q.rest.same i (omega arith), here) k)
              (λ ne. rw (get_or-set_other ss i j row zero_segment ne) (q.rows j (omega (arith, ne))))
              (eq_or_ne j i);
          rest = same_past_more (same_past_grow q.rest (omega arith)) (same_past_set (i + 1) ss i row (omega arith)) (omega arith);
          here = rw (add-one i) (after_suc es 0 0 c i within ∙ rw (event, q.here, e) refl);
        }

-- The recorded events end within the code, and what follows them stands at a small new offset.
module _ {kept : Segment → Segment → Segment → Type 0} {before ss : List Segment} {events : List ℕ} {n code : ℕ} {c : Choice} {old new : ℕ} (rec : Recorded events n code)
    (q : Kept kept before ss (entries (event_at events) n) c n old new) where
  kept_after : (old ≤ code) × (new ≤ old + 4096 * n)
  kept_after =
      omega (
        arith,
        after_le (entries (event_at events) n) 0 0 code c n rec.modest rec.ordered (omega (arith, length_entries (event_at events) n)),
        ap (λ (x : Cursor). x.old) q.here,
        ap (λ (x : Cursor). x.new) q.here,
      )

  pub kept_low : old ≤ code
  kept_low = kept_after.0

  pub kept_small : n ≤ most_entries → new + (code - old) ≤ offset_bound
  kept_small few = omega (arith, kept_after, rec.small)

-- Where each row is its event's segment, the table holds the layout.
pub kept_laid : {kept : Segment → Segment → Segment → Type 0} {before ss : List Segment} {es : List LayoutEvent} {n : ℕ} {c : Choice} {old new : ℕ}
    → Kept kept before ss es c n old new → length es ≡ n → n ≤ length before → ((x s r : Segment) → kept x s r → r ≡ s)
    → Laid before ss es c old new
kept_laid {es = es} {c = c} q count room each =
    record {
      table = same_past_is q.rest (segments 0 0 es c) (length_segments es 0 0 c ∙ count) room
          (λ i h. each _ _ _ (q.rows i h) ∙ sym (segments_get_d es 0 0 c i zero_segment (omega (arith, count))));
      here = ap (λ (k : ℕ). after k 0 0 es c) count ∙ q.here;
    }

-- Where each row takes its event's new end alone, the table has the new ends.
pub kept_ended : {kept : Segment → Segment → Segment → Type 0} {before ss : List Segment} {es : List LayoutEvent} {n : ℕ} {c : Choice} {old new : ℕ}
    → Kept kept before ss es c n old new → length es ≡ n → n ≤ length before → ((x s r : Segment) → kept x s r → r ≡ with_end x s.new_end)
    → Ended before ss es c n old new
kept_ended {before = before} {es = es} {n} {c} q count room each =
    record {
      table = same_past_is q.rest (entries (ended_row before es c) n) (length_entries (ended_row before es c) n) room
          (λ i h. each _ _ _ (q.rows i h)
          ∙ (ap (λ (x : Cursor). with_end (get_or before i zero_segment) x.new) (sym (after_suc es 0 0 c i (omega (arith, count))))
          ∙ sym (get_d_entries (ended_row before es c) n i zero_segment h)));
      here = q.here;
    }
