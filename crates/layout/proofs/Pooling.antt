-- The alignments of the pool, laid out one after another, and how they join the recorded events.
use mathlib.Core.Path.{◌≡◌, refl, sym, ◌∙◌, ap}
use mathlib.Core.Bool.{Bool, false}
use mathlib.Core.List.{List, [], ◌∷◌, ◌++◌, append_assoc, append-nil}
use Prim.Native.Nat.{ℕ, zero, suc, ◌+◌, ◌-◌, ◌*◌, ◌≤◌, ◌<◌}
use native.Mathlib.Omega.{arith}
use lib.ListN.{length, get_or, set, length-append, get_or-append}
use Rattle.seqs.specs.Over.{over}
use Rattle.seqs.proofs.Overwrites.{over_nil, over_snoc, over_append}
use Rattle.encoder.specs.Padding.{padding_length}
use Rattle.relax.specs.declared.LayoutEvent.{LayoutEvent}
use Rattle.relax.specs.declared.LayoutEvent.TheVariants.{Align}
use Rattle.relax.specs.declared.Segment.{Segment}
use Rattle.relax.specs.Events.{event_at, end_of, start_of, no_event}
use Rattle.buffer.specs.Tables.{default_most}
use Rattle.recording.specs.View.{entries}
use Rattle.fresh.specs.Pooled.{constant_alignment}
use Rattle.fresh.specs.Forms.{width}
use Rattle.fresh.specs.Fresh.{Choice}
use Rattle.fresh.specs.Segments.{segment, segments}
use Rattle.fresh.specs.Order.{Ordered}
use Rattle.fresh.specs.steps.Runs.{Small, Modest, Cursor, after}
use Rattle.fresh.proofs.Constants.{alignment_range, constant_padding, constant_spends}
use Rattle.fresh.proofs.Loops.{length_segments, segments_snoc}
use Rattle.pool.specs.steps.Pool.{size_at, pool_start, pool_padding, pool_event, PoolFits, most_pooled}
use Rattle.layout.specs.steps.Layout.{end_from, finished_length, all_events, Recorded}
use Rattle.recording.proofs.Views.{length_entries, get_d_entries}
use Rattle.layout.proofs.Turns.{after_snoc}

-- A constant's padding is at most 63 bytes.
pub pool_padding_lem : (offset n multiple r : ℕ) → multiple ≡ constant_alignment n → r ≡ padding_length offset multiple → r ≤ 63
pool_padding_lem offset n multiple r h e = rw (e, h) (constant_padding offset n)

-- the segment of a constant's alignment that starts at the recorded offset t, whose new offset is u
align_segment : (old new t u len size : ℕ) (long : Bool) → u ≡ new + (t - old)
    → segment old new (Align (record { start = t; len = len; align = constant_alignment size; most = default_most })) long
    ≡ record { old_start = t; old_end = t + len; new_start = u; new_end = u + padding_length u (constant_alignment size) }
unfolding width
align_segment old new t u len size long h = rw (← h, constant_spends u size) refl

-- The segments of the first j alignments stand over a table's from segment n on, and the loop stands at the recorded offset `old` and the new offset `new`.
pub record PoolLaid (before ss : List Segment) (constants asked : List ℕ) (n from to j old new : ℕ) : Type 0 where
  pub table : ss ≡ over before n (segments from to (entries (pool_event from constants asked) j) [])
  pub start : old ≡ pool_start from constants asked j
  pub sum : new ≡ end_from from to (entries (pool_event from constants asked) j) [] old
  pub near : old ≤ from + most_pooled * j
  pub small : new ≤ to + most_pooled * j

pub pool_none : {before : List Segment} {constants asked : List ℕ} {n from to : ℕ} → PoolLaid before before constants asked n from to 0 from to
unfolding after segments pool_start
pool_none {before} {n = n} = record {
  table = sym (over_nil before n);
  start = refl;
  sum = omega arith;
  near = omega arith;
  small = omega arith;
}

module _ {before ss : List Segment} {constants asked : List ℕ} {n from to j old new m : ℕ} (laid : PoolLaid before ss constants asked n from to j old new)
    (fits : PoolFits constants asked m) (more : j < m) {sz a b : ℕ} (s : sz ≡ size_at constants asked j)
    (p : a ≡ padding_length old (constant_alignment sz)) (q : b ≡ padding_length new (constant_alignment sz)) where
  es : List LayoutEvent
  es = entries (pool_event from constants asked) j

  there : Cursor
  there = after (length (entries (pool_event from constants asked) j)) from to (entries (pool_event from constants asked) j) []

  the_segment : segment there.old there.new (pool_event from constants asked j) (get_or [] (length es) false)
      ≡ record { old_start = old; old_end = old + a; new_start = new; new_end = new + b }
  unfolding there
  the_segment =
      rw (p, q, s, laid.start)
      (align_segment there.old there.new (pool_start from constants asked j) new (pool_padding from constants asked j) (size_at constants asked j) _
      (laid.sum ∙ rw laid.start refl)
      ∙ refl)

  next : after (length (entries (pool_event from constants asked) (suc j))) from to (entries (pool_event from constants asked) (suc j)) []
      ≡ record { old = pool_start from constants asked j + pool_padding from constants asked j; new = new + b }
  unfolding there es
  next =
      after_snoc es from to [] (pool_event from constants asked j)
      ∙ ap (λ (x : Segment). record { old = pool_start from constants asked j + pool_padding from constants asked j; new = x.new_end }) the_segment

  pub pool_more : PoolLaid before (set ss (n + j) (record { old_start = old; old_end = old + a; new_start = new; new_end = new + b })) constants asked n from to (suc j) (old + a + sz) (new + b + sz)
  unfolding pool_start there es
  pool_more =
      let o : pool_start from constants asked j + pool_padding from constants asked j ≡ old + a = rw (p, s, laid.start) refl in
      record {
        table =
            rw laid.table
            (over_snoc before n (segments from to es []) (n + j) _ (omega (arith, length_segments es from to [], length_entries (pool_event from constants asked) j))
            ∙ ap (over before n) (sym (segments_snoc es from to [] (pool_event from constants asked j) ∙ ap (λ (x : Segment). segments from to es [] ++ (x ∷ [])) the_segment)));
        start = rw (p, s, laid.start) refl;
        sum = rw next (omega (arith, o));
        near = omega (arith, laid.near, p, s, pool_padding_lem old sz _ a refl p, fits.sized j more);
        small = omega (arith, laid.small, q, s, pool_padding_lem new sz _ b refl q, fits.sized j more);
      }

-- Events in order, one more.
pub ordered_snoc : (es : List LayoutEvent) (o n k : ℕ) (e : LayoutEvent) → Ordered o n es → n ≤ start_of e → end_of e ≤ k → Ordered o k (es ++ (e ∷ []))
unfolding Ordered
ordered_snoc [] o n k e h a b = (omega arith, b)
ordered_snoc (x ∷ es) o n k e h a b = (h.0, ordered_snoc es (end_of x) n k e h.1 a b)

modest_snoc : (es : List LayoutEvent) (e : LayoutEvent) → Modest es → Small e → Modest (es ++ (e ∷ []))
unfolding Modest
modest_snoc [] e h k = (k, tt)
modest_snoc (x ∷ es) e h k = (h.0, modest_snoc es e h.1 k)

small_pool : (from : ℕ) (constants asked : List ℕ) (j : ℕ) → Small (pool_event from constants asked j)
small_pool from constants asked j = let r = alignment_range (size_at constants asked j) in omega (arith, r)

module _ (events : List ℕ) (n code : ℕ) (constants asked : List ℕ) where
  -- one alignment more
  pub all_suc : (j : ℕ) → all_events events n code constants asked (suc j) ≡ all_events events n code constants asked j ++ (pool_event code constants asked j ∷ [])
  all_suc j = sym (append_assoc (entries (event_at events) n) (entries (pool_event code constants asked) j) (pool_event code constants asked j ∷ []))

  pub all_none : all_events events n code constants asked 0 ≡ entries (event_at events) n
  all_none = append-nil (entries (event_at events) n)

  module _ (rec : Recorded events n code) where
    -- All events follow one another, and end where the pool ends.
    pub all_ordered : (j : ℕ) → Ordered 0 (pool_start code constants asked j) (all_events events n code constants asked j)
    unfolding pool_start
    all_ordered zero = rw all_none rec.ordered
    all_ordered (suc j) =
        rw (all_suc j)
        (ordered_snoc (all_events events n code constants asked j) 0 (pool_start code constants asked j) _ (pool_event code constants asked j) (all_ordered j) (omega arith) (omega arith))

    pub all_modest : (j : ℕ) → Modest (all_events events n code constants asked j)
    all_modest zero = rw all_none rec.modest
    all_modest (suc j) = rw (all_suc j) (modest_snoc (all_events events n code constants asked j) (pool_event code constants asked j) (all_modest j) (small_pool code constants asked j))

  pub length_all : (j : ℕ) → length (all_events events n code constants asked j) ≡ n + j
  length_all j =
      length-append (entries (event_at events) n) (entries (pool_event code constants asked) j)
      ∙ omega (arith, length_entries (event_at events) n, length_entries (pool_event code constants asked) j)

  -- The first of all events are the recorded ones.
  pub all_first : (m i : ℕ) → i < n → get_or (all_events events n code constants asked m) i no_event ≡ event_at events i
  all_first m i h =
      get_or-append (entries (event_at events) n) (entries (pool_event code constants asked) m) no_event i (omega (arith, length_entries (event_at events) n))
      ∙ get_d_entries (event_at events) n i no_event h

  -- What follows the recorded events is laid out as if it began where the code ends.
  module _ (c : Choice) (old new to : ℕ) (here : after (length (entries (event_at events) n)) 0 0 (entries (event_at events) n) c ≡ record { old = old; new = new })
      (low : old ≤ code) (at : to ≡ new + (code - old)) where
    abbrev one : ℕ → Cursor
    one j = after (length (all_events events n code constants asked j)) 0 0 (all_events events n code constants asked j) c

    abbrev two : ℕ → Cursor
    two j = after (length (entries (pool_event code constants asked) j)) code to (entries (pool_event code constants asked) j) []

    record Joined (j : ℕ) : Type 0 where
      joins : segments 0 0 (all_events events n code constants asked j) c
          ≡ segments 0 0 (entries (event_at events) n) c ++ segments code to (entries (pool_event code constants asked) j) []
      same : (t : ℕ) → pool_start code constants asked j ≤ t → (one j).new + (t - (one j).old) ≡ (two j).new + (t - (two j).old)

    joined : (j : ℕ) → Joined j
    unfolding pool_start segments after
    joined zero =
        let a = ap (λ (x : Cursor). x.old) here in
        let b = ap (λ (x : Cursor). x.new) here in
        record {
          joins = rw all_none (sym (append-nil (segments 0 0 (entries (event_at events) n) c)));
          same = λ t h. rw all_none (omega (arith, a, b));
        }
    joined (suc j) =
        let q = joined j in
        let t = pool_start code constants asked j in
        let e = pool_event code constants asked j in
        let first = segments 0 0 (entries (event_at events) n) c in
        let u = (one j).new + (t - (one j).old) in
        let len = pool_padding code constants asked j in
        let size = size_at constants asked j in
        let s : Segment = record { old_start = t; old_end = t + len; new_start = u; new_end = u + padding_length u (constant_alignment size) } in
        let s1 = align_segment (one j).old (one j).new t u len size (get_or c (length (all_events events n code constants asked j)) false) refl in
        let s2 = align_segment (two j).old (two j).new t u len size (get_or [] (length (entries (pool_event code constants asked) j)) false) (q.same t (omega arith)) in
        let next_one : one (suc j) ≡ record { old = t + len; new = s.new_end }
        = rw (all_suc j) (after_snoc (all_events events n code constants asked j) 0 0 c e ∙ ap (λ (x : Segment). record { old = t + len; new = x.new_end }) s1) in
        let next_two : two (suc j) ≡ record { old = t + len; new = s.new_end }
        = after_snoc (entries (pool_event code constants asked) j) code to [] e ∙ ap (λ (x : Segment). record { old = t + len; new = x.new_end }) s2 in
        record {
          joins =
              rw (all_suc j)
              (segments_snoc (all_events events n code constants asked j) 0 0 c e
              ∙ (ap (λ (x : Segment). segments 0 0 (all_events events n code constants asked j) c ++ (x ∷ [])) s1
              ∙ (ap (λ (l : List Segment). l ++ (s ∷ [])) q.joins
              ∙ (append_assoc first (segments code to (entries (pool_event code constants asked) j) []) (s ∷ [])
              ∙ sym (ap (λ (l : List Segment). first ++ l)
              (segments_snoc (entries (pool_event code constants asked) j) code to [] e
              ∙ ap (λ (x : Segment). segments code to (entries (pool_event code constants asked) j) [] ++ (x ∷ [])) s2))))));
          same = λ v h. rw (next_one, next_two) refl;
        }

    pub segments_all : (m : ℕ) → segments 0 0 (all_events events n code constants asked m) c
        ≡ segments 0 0 (entries (event_at events) n) c ++ segments code to (entries (pool_event code constants asked) m) []
    segments_all m = (joined m).joins

    -- Both together are the layout of all events,
    pub segments_join : (before ss ss' : List Segment) (m : ℕ) → ss ≡ over before 0 (segments 0 0 (entries (event_at events) n) c)
        → ss' ≡ over ss n (segments code to (entries (pool_event code constants asked) m) [])
        → ss' ≡ over before 0 (segments 0 0 (all_events events n code constants asked m) c)
    segments_join before ss ss' m h k =
        let first = segments 0 0 (entries (event_at events) n) c in
        let e : n ≡ 0 + length first = omega (arith, length_segments (entries (event_at events) n) 0 0 c, length_entries (event_at events) n) in
        k
        ∙ (ap (λ (x : List Segment). over x n (segments code to (entries (pool_event code constants asked) m) [])) h
        ∙ (ap (λ (x : ℕ). over (over before 0 first) x (segments code to (entries (pool_event code constants asked) m) [])) e
        ∙ (over_append before 0 first (segments code to (entries (pool_event code constants asked) m) [])
        ∙ ap (λ (l : List Segment). over before 0 l) (sym (segments_all m)))))

    -- and they end together.
    pub ends_join : (m : ℕ) → end_from code to (entries (pool_event code constants asked) m) [] (pool_start code constants asked m)
        ≡ finished_length (all_events events n code constants asked m) c (pool_start code constants asked m)
    ends_join m = sym ((joined m).same (pool_start code constants asked m) (omega arith))
