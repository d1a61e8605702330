-- The loop that writes events and the runs between them: what a segment says of where an event stands, one turn, and the end.
use Rattle.std.proofs.Common.{◌≡◌, ℕ, zero, suc, ◌+◌, ◌-◌, ◌<◌, ◌≤◌, Bool, false, List, [], ◌∷◌, ◌++◌, length, get_or, take, drop, sym, ap, ◌∙◌, append_assoc, add-one, arith, length-append, length-drop, length-take, length-take-le, get_or-take, take-take}
use native.Mathlib.Nat.{sub-zero}
use lib.Seq.{take-nil}
use Rattle.seqs.specs.Over.{over}
use Rattle.seqs.proofs.Overwrites.{over_append, over_mid, over_all}
use Rattle.relax.specs.declared.LayoutEvent.{LayoutEvent}
use Rattle.relax.specs.declared.Segment.{Segment}
use Rattle.relax.specs.Events.{event_at, start_of, extent_of, end_of, no_event}
use Rattle.recording.specs.View.{entries}
use Rattle.fresh.specs.Forms.{form, width}
use Rattle.fresh.specs.Fresh.{is_long, others}
use Rattle.fresh.specs.Segments.{segment, segments}
use Rattle.fresh.specs.Fill.{part}
use Rattle.fresh.specs.Order.{Ordered}
use Rattle.fresh.specs.steps.Runs.{form_at, runs, Cursor, after, segment_at, runs_to}
use Rattle.fresh.proofs.Loops.{length_segments, segments_get_d, after_suc, runs_to_suc, runs_all, length_runs_to, length_runs, after_start_lem, after_mono}
use Rattle.fresh.proofs.Events.{ordered_le}
use Rattle.fresh.proofs.Forms.{length_form}
use Rattle.recording.proofs.Views.{length_entries, get_d_entries}
use Rattle.layout.specs.steps.Layout.{zero_segment}
use Rattle.emit.specs.steps.Emit.{Emits}

-- lists
drop_take : (o n : ℕ) (l : List ℕ) → drop o (take n l) ≡ take (n - o) (drop o l)
drop_take zero n l = rw (sub-zero n)
drop_take (suc o) zero l = let z : 0 - suc o ≡ 0 = omega arith in rw z
drop_take (suc o) (suc n) [] = sym (take-nil (suc n - suc o))
drop_take (suc o) (suc n) (x ∷ l) = let e : suc n - suc o ≡ n - o = omega arith in rw e (drop_take o n l)

-- a run that ends within the code
run_is : (o s n : ℕ) (l : List ℕ) → s ≤ n → take (s - o) (drop o (take n l)) ≡ take (s - o) (drop o l)
run_is o s n l h = rw (drop_take o n l) (take-take (s - o) (n - o) (drop o l) (omega arith))

-- a part that ends within the code
part_is : (start k n : ℕ) (l : List ℕ) → start + k ≤ n → part (take n l) start k ≡ part l start k
part_is start k n l h = rw (drop_take start n l) (take-take k (n - start) (drop start l) (omega arith))

-- a part that a copy of its length was made into
pub copied : (xs part bytes : List ℕ) (at k : ℕ) → length bytes ≡ k → at + k ≤ length xs → part ≡ over (take (at + k - at) (drop at xs)) 0 bytes
    → take at xs ++ (part ++ drop (at + k - at) (drop at xs)) ≡ over xs at bytes
copied xs part bytes at k e h f =
    let m : at + k - at ≡ k = omega arith in
    let l : length (take (at + k - at) (drop at xs)) ≡ k = rw m (length-take-le k (drop at xs) (rw (length-drop at xs) (omega arith))) in
    let whole : part ≡ bytes = f ∙ over_all (take (at + k - at) (drop at xs)) bytes (e ∙ sym l) in
    rw whole (over_mid xs at (at + k - at) bytes (e ∙ sym m) (omega arith))

pub run_copied : (xs part code : List ℕ) (old start new : ℕ) → old ≤ start → start ≤ length code → new + (start - old) ≤ length xs
    → let k = new + (start - old) - new in part ≡ over (take k (drop new xs)) 0 (take (start - old) (drop old code))
    → take new xs ++ (part ++ drop k (drop new xs)) ≡ over xs new (take (start - old) (drop old code))
run_copied xs part code old start new a b h f =
    copied xs part (take (start - old) (drop old code)) new (start - old) (length-take-le (start - old) (drop old code) (rw (length-drop old code) (omega arith))) h f

-- an event's form in the part that its segment has
pub form_back : (xs part : List ℕ) (event : LayoutEvent) (long : Bool) (start end arch : ℕ) (bytes : List ℕ) → end ≡ start + width event long start
    → end ≤ length xs → part ≡ form arch event bytes long start
    → take start xs ++ (part ++ drop (end - start) (drop start xs)) ≡ over xs start (form arch event bytes long start)
form_back xs part event long start end arch bytes e h f =
    rw f (over_mid xs start (end - start) (form arch event bytes long start) (omega (arith, length_form arch event bytes long start)) (omega arith))

pub form_room : (xs : List ℕ) (event : LayoutEvent) (long : Bool) (start end : ℕ) → end ≡ start + width event long start → end ≤ length xs
    → length (take (end - start) (drop start xs)) ≡ width event long start
form_room xs event long start end e h =
    length-take-le (end - start) (drop start xs) (rw (length-drop start xs) (omega arith)) ∙ omega arith

-- the table has a segment for each event
table_size : (ss : List Segment) (es : List LayoutEvent) (n : ℕ) (c : List Bool) → length es ≡ n → take n ss ≡ segments 0 0 es c → n ≤ length ss
table_size ss es n c l e = omega (arith, ap length e, length-take n ss, length_segments es 0 0 c)

segment_at_lem : (ss : List Segment) (es : List LayoutEvent) (n : ℕ) (c : List Bool) (i : ℕ) → length es ≡ n → i < n → take n ss ≡ segments 0 0 es c
    → get_or ss i zero_segment ≡ segment_at i 0 0 es c
segment_at_lem ss es n c i l h e =
    sym (get_or-take n ss i zero_segment h) ∙ ap (λ (t : List Segment). get_or t i zero_segment) e ∙ segments_get_d es 0 0 c i zero_segment (omega arith)

-- a layout stands within the code
after_old : (es : List LayoutEvent) (o n len : ℕ) (c : List Bool) (i : ℕ) → Ordered o len es → (after i o n es c).old ≤ len
unfolding after Ordered
after_old es o n len c zero h = ordered_le o len es h
after_old [] o n len c (suc i) h = h
after_old (e ∷ es) o n len c (suc i) h = after_old es (end_of e) (segment o n e (is_long c)).new_end len (others c) i h.1

-- and so does every event
end_le : (es : List LayoutEvent) (o len i : ℕ) → Ordered o len es → i < length es → end_of (get_or es i no_event) ≤ len
unfolding Ordered
end_le [] o len i h l = absurd (omega arith)
end_le (e ∷ es) o len zero h l = ordered_le (end_of e) len es h.1
end_le (e ∷ es) o len (suc i) h l = end_le es (end_of e) len i h.1 (omega arith)

module _ {output code events : List ℕ} {long : List Bool} {ss : List Segment} {n len arch : ℕ} (emits : Emits output code events long ss n len arch) where
  abbrev es : List LayoutEvent
  es = entries (event_at events) n

  size : length es ≡ n
  size = length_entries (event_at events) n

  code_size : length (take len code) ≡ len
  code_size = length-take-le len code emits.coded

  pub segments_size : n ≤ length ss
  segments_size = table_size ss es n long size emits.laid

  in_order : Ordered 0 (length (take len code)) es
  in_order = rw code_size emits.ordered

  pub event_within : (i : ℕ) → i < n → end_of (event_at events i) ≤ len
  event_within i h = rw (get_d_entries (event_at events) n i no_event h) at (end_le es 0 len i emits.ordered (omega (arith, size)))

  -- where the layout stands after i events
  reached : (i old new : ℕ) → after i 0 0 es long ≡ record { old = old; new = new } → i ≤ n → new ≤ length (runs arch 0 0 (take len code) es long)
  reached i old new here h =
      let last = after_mono es 0 0 long i (length es) (omega (arith, size)) in
      let at : (after i 0 0 es long).new ≡ new = ap (λ (k : Cursor). k.new) here in
      omega (arith, last, at, length_runs arch es 0 0 (take len code) long in_order)

  so_far : (i old new : ℕ) → after i 0 0 es long ≡ record { old = old; new = new } → i ≤ n → length (runs_to i arch 0 0 (take len code) es long) ≡ new
  so_far i old new here h =
      omega (arith, length_runs_to arch es 0 0 (take len code) long i in_order (omega (arith, size)), ap (λ (k : Cursor). k.new) here)

  -- event i, and its segment s
  module _ (i old new : ℕ) (here : after i 0 0 es long ≡ record { old = old; new = new }) where
    module _ (h : i < n) (s : Segment) (e : s ≡ get_or ss i zero_segment) where
      abbrev event : LayoutEvent
      event = event_at events i

      stands : s ≡ segment old new event (get_or long i false)
      unfolding segment_at
      stands =
          e ∙ segment_at_lem ss es n long i size h emits.laid
          ∙ rw (here, get_d_entries (event_at events) n i no_event h)

      next : after (suc i) 0 0 es long ≡ record { old = s.old_end; new = s.new_end }
      unfolding segment_at
      next =
          after_suc es 0 0 long i (omega (arith, size))
          ∙ rw (here, get_d_entries (event_at events) n i no_event h, stands)

      pub order : old ≤ s.old_start
      order =
          let w = after_start_lem es 0 0 len long i emits.ordered (omega (arith, size)) in
          rw stands (rw (here, get_d_entries (event_at events) n i no_event h) at w.0)

      pub within : s.old_end ≤ len
      within =
          let w = after_start_lem es 0 0 len long i emits.ordered (omega (arith, size)) in
          rw stands (rw (get_d_entries (event_at events) n i no_event h) at w.1)

      pub starts : s.old_start ≤ len
      starts =
          let a : s.old_end ≡ end_of event = rw stands in
          let b : s.old_start ≡ start_of event = rw stands in
          omega (arith, within, a, b)

      pub begins : s.new_start ≡ new + (s.old_start - old)
      begins = rw stands

      pub ends : s.new_end ≡ s.new_start + width event (get_or long i false) s.new_start
      ends = rw stands

      pub inside : s.new_end ≤ length output
      inside = omega (arith, reached (suc i) s.old_end s.new_end next h, emits.room)

      pub arrived : after (i + 1) 0 0 es long ≡ record { old = s.old_end; new = s.new_end }
      arrived = rw (add-one i) next

      one_more : runs_to (suc i) arch 0 0 (take len code) es long
          ≡ runs_to i arch 0 0 (take len code) es long
          ++ (take (s.old_start - old) (drop old code) ++ form_at arch code event (get_or long i false) s.new_start)
      one_more =
          let b : s.old_start ≡ start_of event = rw stands in
          let seg : segment_at i 0 0 es long ≡ s = sym (e ∙ segment_at_lem ss es n long i size h emits.laid) in
          runs_to_suc arch es 0 0 (take len code) long i (omega (arith, size))
          ∙ rw (
            here,
            get_d_entries (event_at events) n i no_event h,
            seg,
            run_is old (start_of event) len code (omega (arith, starts, b)),
            part_is (start_of event) (extent_of event) len code (omega (arith, within, ap (λ (x : Segment). x.old_end) stands)),
            b,
          )

      pub turn : (now run after : List ℕ) → now ≡ over output 0 (runs_to i arch 0 0 (take len code) es long)
          → run ≡ over now new (take (s.old_start - old) (drop old code)) → after ≡ over run s.new_start (form_at arch code event (get_or long i false) s.new_start)
          → after ≡ over output 0 (runs_to (i + 1) arch 0 0 (take len code) es long)
      turn now run after a b d =
          let done = runs_to i arch 0 0 (take len code) es long in
          let bytes = take (s.old_start - old) (drop old code) in
          let written = form_at arch code event (get_or long i false) s.new_start in
          let l : length bytes ≡ s.old_start - old =
          length-take-le (s.old_start - old) (drop old code) (rw (length-drop old code) (omega (arith, starts, emits.coded))) in
          let at : new ≡ 0 + length done = omega (arith, so_far i old new here (omega arith)) in
          let to : s.new_start ≡ 0 + length (done ++ bytes) = omega (arith, begins, at, l, length-append done bytes) in
          let copied : run ≡ over output 0 (done ++ bytes) = b ∙ rw (a, at) (over_append output 0 done bytes) in
          d ∙ ap (λ (k : ℕ). over run k written) to ∙ rw copied (over_append output 0 (done ++ bytes) written)
          ∙ ap (λ (x : List ℕ). over output 0 x) (append_assoc done bytes written ∙ sym one_more ∙ ap (λ (k : ℕ). runs_to k arch 0 0 (take len code) es long) (sym (add-one i)))

  -- past the last event
  module _ (i old new : ℕ) (here : after i 0 0 es long ≡ record { old = old; new = new }) (all : i ≡ n) where
    last : after (length es) 0 0 es long ≡ record { old = old; new = new }
    last = ap (λ (k : ℕ). after k 0 0 es long) (size ∙ sym all) ∙ here

    pub last_old : old ≤ len
    last_old = omega (arith, after_old es 0 0 len long (length es) emits.ordered, ap (λ (k : Cursor). k.old) last)

    pub last_room : new + (len - old) ≤ length output
    last_room =
        omega (
          arith,
          length_runs arch es 0 0 (take len code) long in_order,
          ap (λ (k : Cursor). k.old) last,
          ap (λ (k : Cursor). k.new) last,
          code_size,
          emits.room,
        )

    pub finished : (now end : List ℕ) → now ≡ over output 0 (runs_to i arch 0 0 (take len code) es long)
        → end ≡ over now new (take (len - old) (drop old code)) → end ≡ over output 0 (runs arch 0 0 (take len code) es long)
    finished now end a b =
        let done = runs_to i arch 0 0 (take len code) es long in
        let at : new ≡ 0 + length done = omega (arith, so_far i old new here (omega arith)) in
        let each : runs_to (length es) arch 0 0 (take len code) es long ≡ done = ap (λ (k : ℕ). runs_to k arch 0 0 (take len code) es long) (size ∙ sym all) in
        let whole : runs arch 0 0 (take len code) es long ≡ done ++ take (len - old) (drop old code) =
        runs_all arch es 0 0 (take len code) long ∙ rw (last, each, drop_take old len code) in
        b ∙ rw (a, at) (over_append output 0 done (take (len - old) (drop old code))) ∙ ap (λ (x : List ℕ). over output 0 x) (sym whole)
