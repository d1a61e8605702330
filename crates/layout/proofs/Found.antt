-- A label found once: the last event that starts at or before it says, under every choice, where `map` takes it.
use mathlib.Core.Path.{◌≡◌, sym, ◌∙◌, ap}
use mathlib.Core.Logic.{◌≢◌}
use mathlib.Core.List.{List, []}
use Prim.Native.Nat.{ℕ, zero, suc, ◌+◌, ◌-◌, ◌≤◌, ◌<◌}
use native.Mathlib.Omega.{arith}
use lib.Dec.{ltb}
use lib.ListN.{length, get_or}
use borrow.Author.Tests.{eq-eqb, ne_eqb, lt-ltb, le-ltb, ltb-true, ltb-false}
use Rattle.lookup.specs.steps.Index.{Indexed}
use Rattle.lookup.proofs.Index.{indexed_same}
use Rattle.relax.specs.declared.LayoutEvent.{LayoutEvent}
use Rattle.relax.specs.declared.Segment.{Segment}
use Rattle.relax.specs.Events.{start_of, end_of, no_event}
use Rattle.buffer.specs.State.{none}
use Rattle.fresh.specs.Fresh.{Choice}
use Rattle.fresh.specs.Segments.{segments, image, map_offset}
use Rattle.fresh.specs.steps.Runs.{Cursor, after, segment_at}
use Rattle.fresh.proofs.Tests.{split}
use Rattle.fresh.proofs.Events.{starts_rise}
use Rattle.fresh.proofs.Loops.{length_segments, segments_get_d, after_suc, after_start_lem, decided_skip, decided_last}
use Rattle.pool.specs.steps.Pool.{offset_bound}
use Rattle.layout.specs.steps.Layout.{zero_segment, start_at, Sorted, Between}
use Rattle.layout.specs.steps.Targets.{end_in, old_end_before, Stands, Shown, Finds}

-- An unbound label stays unbound.
pub finds_none : (es : List LayoutEvent) (t : ℕ) → t ≡ none → Finds es t 0 t
unfolding map_offset after
finds_none es t e = record { count = omega arith; small = λ h. absurd (omega arith); word = omega arith; there = λ c. rw (eq-eqb t none e, map_offset) (omega arith) }

module _ {es : List LayoutEvent} {ss : List Segment} {events : List ℕ} {n all : ℕ} (shown : Shown es ss events n all) where
  -- The recorded starts rise, so the table can be searched.
  pub shown_sorted : Sorted ss all
  shown_sorted = record {
    fits = shown.fits;
    rises = λ i j le h.
        omega (
          arith,
          shown.starts i (omega arith),
          shown.starts j h,
          starts_rise es 0 shown.len i j shown.ordered le (omega (arith, shown.count)),
        );
  }

  -- An index of the starts serves every table that shows these events.
  pub indexed_shown : {ss' : List Segment} {index : List ℕ} {shift : ℕ} → Shown es ss' events n all → Indexed index (start_at ss) all shift → Indexed index (start_at ss') all shift
  indexed_shown other x = indexed_same x (λ j h. shown.starts j h ∙ sym (other.starts j h))

  -- Event i ends where its table, or its segment, says.
  pub end_shown : (i : ℕ) → i < all → end_in ss events n i ≡ end_of (get_or es i no_event)
  end_shown i h = split (ltb i n)
      (λ q. rw q (ap end_of (shown.recorded i (ltb-true i n q) h)))
      (λ q. rw q (shown.ends i (ltb-false i n q) h))

  pub end_stands : (i : ℕ) → i < all → Stands ss events n i
  end_stands i h = record {
    read = λ k. (
      omega (arith, shown.room),
      rw (shown.recorded i k h) (omega (arith, (after_start_lem es 0 0 shown.len [] i shown.ordered (omega (arith, shown.count))).1, shown.small)),
    );
    room = omega (arith, shown.fits);
  }

  pub ends_stand : (k : ℕ) → k ≤ all → 0 < k → Stands ss events n (k - 1)
  ends_stand k h some = end_stands (k - 1) (omega arith)

  module _ {t : ℕ} (bound : t ≢ none) where
    late : (k : ℕ) → Between ss all t k k → (c : Choice) (j : ℕ) → k ≤ j → j < length (segments 0 0 es c) → t < (get_or (segments 0 0 es c) j zero_segment).old_start
    unfolding segment_at
    late k b c j w v =
        let h : j < all = omega (arith, shown.count, length_segments es 0 0 c) in
        rw (segments_get_d es 0 0 c j zero_segment (omega (arith, shown.count))) (omega (arith, b.above j w h, shown.starts j h))

    -- No event starts at or before it.
    pub finds_first : t ≤ offset_bound → Between ss all t 0 0 → Finds es t 0 t
    unfolding map_offset after
    finds_first small b = record {
      count = omega arith;
      small = λ h. absurd (omega arith);
      word = omega arith;
      there = λ c.
          rw (ne_eqb t none bound, map_offset) (decided_skip (segments 0 0 es c) t t zero_segment (λ j v. late 0 b c j (omega arith) v) ∙ omega arith);
    }

    module _ {k : ℕ} (b : Between ss all t (suc k) (suc k)) where
      within : k < length es
      within = omega (arith, b.within, shown.count)

      -- the last event that starts at or before it
      event : LayoutEvent
      event = get_or es k no_event

      begun : start_of event ≤ t
      unfolding event
      begun = omega (arith, b.under k (omega arith), shown.starts k (omega (arith, b.within)))

      decides : (c : Choice) → map_offset (segments 0 0 es c) t ≡ image (segment_at k 0 0 es c) t
      unfolding map_offset segment_at event
      decides c =
          let e = segments_get_d es 0 0 c k zero_segment within in
          rw (ne_eqb t none bound, map_offset)
          (decided_last (segments 0 0 es c) t t k zero_segment (omega (arith, within, length_segments es 0 0 c)) (rw e begun) (λ j w v. late (suc k) b c j w v)
          ∙ ap (λ (s : Segment). image s t) e)

      -- It lies at or past that event's end: the event is passed.
      pub finds_past : t ≤ offset_bound → (end : ℕ) → end ≡ end_of (get_or es k no_event) → end ≤ t → Finds es t (suc k) (t - end)
      unfolding image segment_at
      finds_past small end e h = record {
        count = within;
        small = λ p. omega arith;
        word = omega arith;
        there = λ c.
            let ended : end_of (get_or es k no_event) ≤ t = omega (arith, e) in
            decides c ∙ (rw (le-ltb t (end_of (get_or es k no_event)) ended, image) (omega (arith, e, ap (λ (x : Cursor). x.new) (after_suc es 0 0 c k within))));
      }

      moves : (c : Choice) → t < end_of (get_or es k no_event) → map_offset (segments 0 0 es c) t ≡ t - (after k 0 0 es c).old + (after k 0 0 es c).new
      unfolding image segment_at event
      moves c h =
          decides c
          ∙ (rw (lt-ltb t (end_of (get_or es k no_event)) h, image) (omega (arith, begun, (after_start_lem es 0 0 shown.len c k shown.ordered within).0)))

    -- It lies strictly inside the first event.
    pub finds_inside_first : t ≤ offset_bound → Between ss all t 1 1 → t < end_of (get_or es 0 no_event) → Finds es t 0 t
    unfolding after
    finds_inside_first small b h = record { count = omega arith; small = λ p. absurd (omega arith); word = omega arith; there = λ c. moves b c h ∙ omega arith }

    -- It lies strictly inside a later one: those before it are passed.
    pub finds_inside : {k : ℕ} → Between ss all t (suc (suc k)) (suc (suc k)) → t < end_of (get_or es (suc k) no_event) → t ≤ offset_bound → (end : ℕ)
        → end ≡ end_of (get_or es k no_event) → Finds es t (suc k) (t - end)
    finds_inside {k} b h small end e =
        let less : suc k < length es = within b in
        record {
          count = omega arith;
          small = λ p. omega arith;
          word = omega arith;
          there = λ c. moves b c h ∙ omega (arith, e, ap (λ (x : Cursor). x.old) (after_suc es 0 0 c k (omega arith)));
        }

    -- What is passed ends at or before it.
    pub passed_under : {k : ℕ} → Between ss all t (suc (suc k)) (suc (suc k)) → end_of (get_or es k no_event) ≤ t
    unfolding event
    passed_under {k} b =
        let less : suc k < length es = within b in
        omega (
          arith,
          begun b,
          (after_start_lem es 0 0 shown.len [] (suc k) shown.ordered less).0,
          ap (λ (x : Cursor). x.old) (after_suc es 0 0 [] k (omega arith)),
        )

    -- The same, as the search finds it: `begun` events start at or before the label.
    module _ (small : t ≤ offset_bound) where
      -- All of them end at or before it.
      pub locates : (begun : ℕ) → Between ss all t begun begun → (end : ℕ) → end ≡ old_end_before ss events n begun → end ≤ t → Finds es t begun (t - end)
      locates zero b end e h = let z : t - end ≡ t = omega (arith, e) in rw z (finds_first small b)
      locates (suc k) b end e h = finds_past b small end (e ∙ end_shown k (omega (arith, b.within))) h

      -- The last of them holds it.
      module _ (begun : ℕ) (b : Between ss all t begun begun) (end : ℕ) (e : end ≡ old_end_before ss events n begun) (h : t < end) where
        pub some_begun : 0 < begun
        some_begun = some begun e
          where
            some : (k : ℕ) → end ≡ old_end_before ss events n k → 0 < k
            some zero z = absurd (omega arith)
            some (suc k) z = omega arith

        located : (k : ℕ) → begun ≡ suc k → (before : ℕ) → before ≡ old_end_before ss events n k → (before ≤ t) × Finds es t k (t - before)
        located zero z before f =
            let b' = rw z at b in
            let y : t - before ≡ t = omega (arith, f) in
            (omega (arith, f), rw y (finds_inside_first small b' (omega (arith, (rw z at e) ∙ end_shown 0 (omega (arith, b'.within))))))
        located (suc k) z before f =
            let b' = rw z at b in
            let g : before ≡ end_of (get_or es k no_event) = f ∙ end_shown k (omega (arith, b'.within)) in (
              omega (arith, passed_under b', g),
              finds_inside b' (omega (arith, (rw z at e) ∙ end_shown (suc k) (omega (arith, b'.within)))) small before g,
            )

        pub locates_before : (before : ℕ) → before ≡ old_end_before ss events n (begun - 1) → (before ≤ t) × Finds es t (begun - 1) (t - before)
        locates_before before f = located (begun - 1) (omega (arith, some_begun)) before f
