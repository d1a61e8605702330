-- The loop of the rounds: where it stands, and what a round leaves.
use mathlib.Core.Path.{◌≡◌, refl, sym, ◌∙◌, ap}
use mathlib.Core.Bool.{Bool, true, false, ◌||◌, or-false}
use mathlib.Core.List.{List, [], ◌∷◌, ◌++◌}
use Prim.Native.Nat.{ℕ, zero, suc, ◌+◌, ◌-◌, ◌≤◌, ◌<◌}
use native.Mathlib.Omega.{arith}
use lib.ListN.{length, get_or, take}
use lib.Seq.{take_all, take-suc}
use Rattle.seqs.specs.Over.{over}
use Rattle.seqs.proofs.Overwrites.{length_over, take_over_end, get_d_over_after}
use Rattle.relax.specs.declared.LayoutEvent.{LayoutEvent}
use Rattle.relax.specs.declared.Segment.{Segment}
use Rattle.relax.specs.Events.{event_at}
use Rattle.buffer.specs.Tables.{most_entries}
use Rattle.recording.specs.View.{entries}
use Rattle.fresh.specs.Forms.{pads, role_of}
use Rattle.fresh.specs.Fresh.{Choice, is_long, others}
use Rattle.fresh.specs.Rounds.{Settled, jumps, is_far, first_start, other_starts, far_of, any, join}
use Rattle.fresh.specs.Segments.{segments, map_offset}
use Rattle.fresh.specs.steps.Runs.{new_starts, segment_at}
use Rattle.fresh.proofs.Tests.{no_confusion}
use Rattle.fresh.proofs.Loops.{length_segments}
use Rattle.fresh.proofs.Choices.{is_long_get_d, others_get_d, length_far_of, length_join, pads_near}
use Rattle.fresh.proofs.Rounds.{shorts, shorts_lt, shorts_most}
use Rattle.pool.specs.steps.Pool.{pool_start, pool_event, PoolFits}
use Rattle.pool.proofs.Turns.{pool_start_bound}
use Rattle.recording.proofs.Views.{length_entries}
use Rattle.layout.specs.steps.Layout.{zero_segment, all_events, finished_length, far_in, far_by, relaxing, relaxed_by, Relaxed, Recorded}
use Rattle.layout.specs.steps.Targets.{Shown, Aiming, SamePast, Adds, missed, Placed}
use Rattle.layout.proofs.Pooling.{all_none, all_suc, length_all, all_first, all_ordered, all_modest}
use Rattle.layout.proofs.Table.{length_laid, segment_laid}
use Rattle.layout.proofs.SamePast.{same_past_none, same_past_more, same_past_over, over_same_past}
use Rattle.layout.proofs.Missed.{missed_list, rows_add}
use Rattle.layout.proofs.Targets.{aiming_stays}
use Rattle.layout.proofs.Settled.{jumps_le, relaxing_last, relaxing_again}

-- Padding is never lengthened.
far_snoc : (g : ℕ → ℕ) (es : List LayoutEvent) (c : Choice) (starts : List ℕ) (e : LayoutEvent) → role_of e ≡ pads
    → far_of g (es ++ (e ∷ [])) c starts ≡ far_of g es c starts ++ (false ∷ [])
unfolding far_of
far_snoc g [] c starts e r = ap (λ (t : Bool). t ∷ []) (pads_near g e (is_long c) (first_start starts) r)
far_snoc g (x ∷ es) c starts e r = ap (λ (l : Choice). is_far g x (is_long c) (first_start starts) ∷ l) (far_snoc g es (others c) (other_starts starts) e r)

any_snoc : (f : Choice) → any (f ++ (false ∷ [])) ≡ any f
unfolding any
any_snoc [] = refl
any_snoc (x ∷ f) = ap (λ (b : Bool). x || b) (any_snoc f)

join_snoc : (c f : Choice) → join c (f ++ (false ∷ [])) ≡ join c f ++ (get_or c (length f) false ∷ [])
unfolding join
join_snoc c [] = rw (is_long_get_d c, or-false (get_or c 0 false)) refl
join_snoc c (x ∷ f) = ap (λ (l : Choice). (is_long c || x) ∷ l) (join_snoc (others c) f ∙ rw (others_get_d c (length f)) refl)

join_none : (c f : Choice) → length c ≡ length f → any f ≡ false → join c f ≡ c
unfolding join any
join_none [] [] h e = refl
join_none [] (y ∷ f) h e = absurd (omega arith)
join_none (x ∷ c) [] h e = absurd (omega arith)
join_none (x ∷ c) (true ∷ f) h e = no_confusion (sym e)
join_none (x ∷ c) (false ∷ f) h e = rw (or-false x, join_none c f (omega arith) e) refl

module _ (events : List ℕ) (n code : ℕ) (constants asked : List ℕ) where
  pool_pads : (j : ℕ) → role_of (pool_event code constants asked j) ≡ pads
  unfolding role_of
  pool_pads j = refl

  module _ (g : ℕ → ℕ) (c : Choice) (starts : List ℕ) where
    any_all : (j : ℕ) → any (far_of g (all_events events n code constants asked j) c starts) ≡ any (far_of g (entries (event_at events) n) c starts)
    any_all zero = rw (all_none events n code constants asked) refl
    any_all (suc j) =
        rw (all_suc events n code constants asked j) (ap any (far_snoc g (all_events events n code constants asked j) c starts _ (pool_pads j)) ∙ (any_snoc _ ∙ any_all j))

    count : length (far_of g (entries (event_at events) n) c starts) ≡ n
    count = length_far_of g (entries (event_at events) n) c starts ∙ length_entries (event_at events) n

    join_all : (j : ℕ) → n + j ≤ length c
        → join c (far_of g (all_events events n code constants asked j) c starts) ≡ take (n + j) (over c 0 (join c (far_of g (entries (event_at events) n) c starts)))
    join_all zero h =
        let f = far_of g (entries (event_at events) n) c starts in
        let a : 0 + length (join c f) ≡ n + 0 = omega (arith, length_join c f, count) in
        rw (all_none events n code constants asked, ← a) (sym (take_over_end c 0 (join c f) (omega arith)))
    join_all (suc j) h =
        let f = far_of g (entries (event_at events) n) c starts in
        let F = far_of g (all_events events n code constants asked j) c starts in
        let x = over c 0 (join c f) in
        let k : n + suc j ≡ suc (n + j) = omega arith in
        let l_f : length F ≡ n + j = length_far_of g (all_events events n code constants asked j) c starts ∙ length_all events n code constants asked j in
        let last : get_or x (n + j) false ≡ get_or c (n + j) false = get_d_over_after c 0 (join c f) (n + j) false (omega (arith, length_join c f, count)) in
        rw (all_suc events n code constants asked j)
        (ap (join c) (far_snoc g (all_events events n code constants asked j) c starts _ (pool_pads j))
        ∙ (join_snoc c F
        ∙ (ap (λ (l : Choice). l ++ (get_or c (length F) false ∷ [])) (join_all j (omega arith))
        ∙ (ap (λ (i : ℕ). take (n + j) x ++ (get_or c i false ∷ [])) l_f
        ∙ sym (rw k (take-suc x (n + j) false (omega (arith, length_over c 0 (join c f))) ∙ ap (λ (b : Bool). take (n + j) x ++ (b ∷ [])) last))))))

  -- What the scan finds among the recorded events is what the round lengthens of all.
  round_is : (m : ℕ) (at : ℕ → ℕ) (c c' f : Choice) (grew : Bool) → length c ≡ n + m
      → f ≡ far_in (segments 0 0 (all_events events n code constants asked m) c) at (entries (event_at events) n) c
      → c' ≡ over c 0 (join c f) → grew ≡ any f
      → (c' ≡ join c (far_by (all_events events n code constants asked m) at c)) × (grew ≡ any (far_by (all_events events n code constants asked m) at c))
  round_is m at c c' f grew sized scan next says =
      let made = segments 0 0 (all_events events n code constants asked m) c in
      let g : ℕ → ℕ = λ l. map_offset made (at l) in
      let x = over c 0 (join c (far_of g (entries (event_at events) n) c (new_starts made))) in (
        next
            ∙ (rw scan refl
            ∙ (sym (take_all (n + m) x (omega (arith, length_over c 0 (join c (far_of g (entries (event_at events) n) c (new_starts made))))))
            ∙ sym (join_all g c (new_starts made) m (omega arith)))),
        says ∙ (rw scan refl ∙ sym (any_all g c (new_starts made) m)),
      )

-- The rounds stand at the choice c, with so many layouts made: what is left of them is what k more rounds make, k jumps less the layouts made.
pub record Standing (es : List LayoutEvent) (at : ℕ → ℕ) (first : Choice) (before ss : List Segment) (c : Choice) (layouts : ℕ) : Type 0 where
  pub sized : length c ≡ length es
  pub few : shorts es c + layouts ≤ jumps es
  pub choice : (relaxing (jumps es - layouts) es at c).choice ≡ (relaxed_by es at first).choice
  pub rounds : layouts + (relaxing (jumps es - layouts) es at c).rounds ≡ (relaxed_by es at first).rounds
  pub rest : SamePast (length es) before ss

pub standing_none : (es : List LayoutEvent) (at : ℕ → ℕ) (before : List Segment) (c : Choice) → length c ≡ length es → Standing es at c before before c 0
standing_none es at before c size =
    let z : jumps es - 0 ≡ jumps es = omega arith in
    record {
      sized = size;
      few = omega (arith, shorts_most es c);
      choice = rw z refl;
      rounds = rw z (omega arith);
      rest = same_past_none (length es) before;
    }

module _ {es : List LayoutEvent} {at : ℕ → ℕ} {first : Choice} {before ss : List Segment} {c : Choice} {layouts : ℕ} (q : Standing es at first before ss c layouts) where
  pub layouts_few : layouts ≤ length es
  layouts_few = omega (arith, q.few, jumps_le es)

  module _ {c' : Choice} {grew : Bool} (round : (c' ≡ join c (far_by es at c)) × (grew ≡ any (far_by es at c))) where
    far_count : length (far_by es at c) ≡ length es
    far_count = length_far_of _ es c _

    fewer : grew ≡ true → shorts es c' < shorts es c
    fewer t = rw round.0 (shorts_lt _ es c _ (sym round.1 ∙ t))

    standing_less : grew ≡ true → layouts < jumps es
    standing_less t = omega (arith, q.few, fewer t)

    standing_more : grew ≡ true → (ss' : List Segment) → SamePast (length es) ss ss' → Standing es at first before ss' c' (layouts + 1)
    standing_more t ss' moved =
        let k : jumps es - layouts ≡ suc (jumps es - (layouts + 1)) = omega (arith, standing_less t) in
        let rest : Settled = relaxing (jumps es - (layouts + 1)) es at (join c (far_by es at c)) in
        let step : relaxing (jumps es - layouts) es at c ≡ record { choice = rest.choice; rounds = suc rest.rounds }
        = ap (λ (x : ℕ). relaxing x es at c) k ∙ relaxing_again (jumps es - (layouts + 1)) es at c (sym round.1 ∙ t) in
        record {
          sized = ap length round.0 ∙ (length_join c (far_by es at c) ∙ far_count);
          few = omega (arith, q.few, fewer t);
          choice = rw round.0 (sym (ap (λ (s : Settled). s.choice) step) ∙ q.choice);
          rounds = rw round.0 (omega (arith, ap (λ (s : Settled). s.rounds) step, q.rounds));
          rest = same_past_more q.rest moved (omega arith);
        }

    -- The last round: the settled layout is written over the table.
    standing_done : grew ≡ false → (ss' ss'' : List Segment) → SamePast (length es) ss ss' → ss'' ≡ over ss' 0 (segments 0 0 es c')
        → (total len : ℕ) → len ≡ finished_length es c' total → Relaxed es at first total before ss'' c' (layouts + 1) len
    standing_done t ss' ss'' moved laid total len finished =
        let none = sym round.1 ∙ t in
        let same : c' ≡ c = round.0 ∙ join_none c (far_by es at c) (q.sized ∙ sym far_count) none in
        let step = relaxing_last (jumps es - layouts) es at c none in
        let here : c' ≡ (relaxed_by es at first).choice = same ∙ (sym (ap (λ (s : Settled). s.choice) step) ∙ q.choice) in
        record {
          choice = here;
          rounds = omega (arith, ap (λ (s : Settled). s.rounds) step, q.rounds);
          table =
              laid
              ∙ (over_same_past (same_past_more q.rest moved (omega arith)) (segments 0 0 es c') (length_segments es 0 0 c')
              ∙ ap (λ (x : Choice). over before 0 (segments 0 0 es x)) here);
          finished = finished ∙ ap (λ (x : Choice). finished_length es x total) here;
        }

-- The rounds as the program makes them.
module _ (events : List ℕ) (n code : ℕ) (constants asked : List ℕ) (m : ℕ) where
  -- The table is laid out once, and then the labels are looked up in it.
  pub shown_laid : (c : Choice) (before ss : List Segment) → Recorded events n code → PoolFits constants asked m → n + m ≤ most_entries → n + m ≤ length before
      → ss ≡ over before 0 (segments 0 0 (all_events events n code constants asked m) c) → Shown (all_events events n code constants asked m) ss events n (n + m)
  unfolding segment_at
  shown_laid c before ss rec fits few room laid =
      let size = length_all events n code constants asked m in
      let es = all_events events n code constants asked m in
      let row : (i : ℕ) → i < n + m → get_or ss i zero_segment ≡ segment_at i 0 0 es c = λ i h. segment_laid before ss es c laid (omega (arith, size)) i (omega (arith, size)) in
      record {
        count = size;
        few = few;
        fits = omega (arith, length_laid before ss es c laid (omega (arith, size)));
        room = rec.room;
        len = pool_start code constants asked m;
        ordered = all_ordered events n code constants asked rec m;
        small = omega (arith, rec.small, pool_start_bound code constants asked m fits m (omega arith));
        recorded = λ i h k. sym (all_first events n code constants asked m i h);
        starts = λ i h. ap (λ (s : Segment). s.old_start) (row i h);
        ends = λ i g h. ap (λ (s : Segment). s.old_end) (row i h);
      }

  -- That and the targets leave what the table has past the events.
  pub relaxed_from : (at : ℕ → ℕ) {first : Choice} {total : ℕ} {before ss ss' ss'' : List Segment} {long : Choice} {layouts len : ℕ} (c : Choice)
      → ss ≡ over before 0 (segments 0 0 (all_events events n code constants asked m) c) → SamePast n ss ss'
      → Relaxed (all_events events n code constants asked m) at first total ss' ss'' long layouts len
      → Relaxed (all_events events n code constants asked m) at first total before ss'' long layouts len
  relaxed_from at {first} {before = before} c laid found r =
      let size = length_all events n code constants asked m in
      let es = all_events events n code constants asked m in
      let over_all = same_past_over (length es) before 0 (segments 0 0 es c) (omega (arith, length_segments es 0 0 c)) in
      let from = same_past_more (rw (← laid) at over_all) found (omega (arith, size)) in
      record {
        choice = r.choice;
        rounds = r.rounds;
        table = r.table ∙ over_same_past from (segments 0 0 es (relaxed_by es at first).choice) (length_segments es 0 0 _);
        finished = r.finished;
      }

  -- A round places the new ends of all events, and scans the recorded ones.
  module _ (at : ℕ → ℕ) {first : Choice} {before ss : List Segment} {c : Choice} {layouts : ℕ} (q : Standing (all_events events n code constants asked m) at first before ss c layouts)
      (aiming : Aiming (all_events events n code constants asked m) at events n ss) (few : n + m ≤ most_entries) {ss' : List Segment}
      (placed : Placed ss ss' (all_events events n code constants asked m) n c) where
    size : length (all_events events n code constants asked m) ≡ n + m
    size = length_all events n code constants asked m

    pub round_adds : Recorded events n code → PoolFits constants asked m → n + m ≤ length ss → (i : ℕ) → i < n → Adds ss' (get_or ss' i zero_segment)
    round_adds rec fits room =
        rows_add placed.placed (omega (arith, size)) (all_first events n code constants asked m) (omega (arith, size)) (aiming_stays aiming placed)
        (pool_start code constants asked m) (all_ordered events n code constants asked rec m) (all_modest events n code constants asked rec m)
        (omega (arith, rec.small, pool_start_bound code constants asked m fits m (omega arith))) (omega (arith, size, placed.rest.sized))

    module _ {c' : Choice} {grew : Bool} (next : c' ≡ over c 0 (join c (missed ss' events c n))) (says : grew ≡ any (missed ss' events c n)) where
      round : (c' ≡ join c (far_by (all_events events n code constants asked m) at c)) × (grew ≡ any (far_by (all_events events n code constants asked m) at c))
      round =
          round_is events n code constants asked m at c c' (missed ss' events c n) grew (q.sized ∙ size)
          (missed_list placed.placed (omega (arith, size)) (all_first events n code constants asked m) (omega (arith, size)) (aiming_stays aiming placed))
          next says

      pub round_less : grew ≡ true → layouts < jumps (all_events events n code constants asked m)
      round_less = standing_less q round

      pub round_more : grew ≡ true → Standing (all_events events n code constants asked m) at first before ss' c' (layouts + 1)
      round_more t = standing_more q round t ss' placed.rest

      pub round_done : grew ≡ false → (ss'' : List Segment) → ss'' ≡ over ss' 0 (segments 0 0 (all_events events n code constants asked m) c')
          → (total len : ℕ) → len ≡ finished_length (all_events events n code constants asked m) c' total
          → Relaxed (all_events events n code constants asked m) at first total before ss'' c' (layouts + 1) len
      round_done t ss'' = standing_done q round t ss' ss'' placed.rest
