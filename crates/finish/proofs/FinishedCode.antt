-- The finished code, step by step as the program writes it, is that of the fresh assembly in front of what stood in the output.
use mathlib.Core.Path.{◌≡◌, refl, sym, ap, ◌∙◌, subst}
use mathlib.Core.Bool.{true}
use mathlib.Core.List.{List, [], ◌++◌}
use Prim.Native.Nat.{ℕ, suc, ◌+◌, ◌*◌, ◌≤◌, ◌<◌}
use native.Mathlib.Omega.{arith}
use lib.ListN.{length, get_or, take, length-append, get_or-map}
use lib.Seq.{length-take-le, get_or-take}
use Rattle.seqs.specs.Over.{over}
use Rattle.seqs.proofs.Overwrites.{over_append}
use Rattle.words.specs.Words.{word_at}
use Rattle.fields.specs.Kinds.{decoded}
use Rattle.relax.specs.declared.LayoutEvent.{LayoutEvent}
use Rattle.relax.specs.declared.Segment.{Segment}
use Rattle.relax.specs.Events.{event_at}
use Rattle.buffer.specs.State.{none}
use Rattle.buffer.specs.Tables.{use_words, ref_words}
use Rattle.recording.specs.View as tables
use Rattle.recording.proofs.Views.{length_entries, get_d_entries}
use Rattle.fresh.specs.Pooled.{Placed, Pooled}
use Rattle.fresh.specs.Fresh.{Choice}
use Rattle.fresh.specs.Segments.{map_offset, segments_of}
use Rattle.fresh.specs.Fill.{assembled, in_place, fill, fill_refs, fill_jumps, fill_uses}
use Rattle.fresh.specs.Order.{Apart, WellFormed}
use Rattle.fresh.specs.steps.Runs.{new_starts, runs}
use Rattle.fresh.proofs.Fill.{built_assembled, length_built}
use Rattle.fresh.proofs.Past.{built_past, in_place_past}
use Rattle.fresh.specs.Forms.{Branch, branches, role_of}
use Rattle.pool.specs.steps.Pool.{label_at, pool_start, pool_offset, pool_bytes, pool_written}
use Rattle.pool.proofs.Turns.{pool_start_bound, length_pool_bytes, pool_start_suc, pool_start_grows}
use Rattle.layout.specs.steps.Layout.{zero_segment}
use Rattle.emit.specs.steps.Emit.{uses_filled, refs_filled, jumps_filled, start_at}
use Rattle.fields.specs.Kinds.{size_of}
use Rattle.seqs.proofs.Every.{every_at}
use Rattle.seqs.specs.Every.{every}
use Rattle.finish.specs.Refusals.{ref_clear}
use Rattle.finish.specs.steps.Tables.{pool_placed, tables_pooled, laid_pooled}
use Rattle.finish.specs.steps.Ready.{Ready, Keepable, end_of_runs, code_written}
use Rattle.finish.proofs.PooledInOrder.{ref_apart, pooled_length, well_formed, constant_size_lem, pool_apart, recorded_ordered}
use Rattle.finish.proofs.FilledFields.{uses_filled_lem, refs_filled_lem, jumps_filled_lem, pool_filled}
use Rattle.finish.proofs.PooledRuns.{pool_runs}

-- what the code is written from: the tables, the layout of a choice of long jumps, and labels at their new offsets
pub record Placing (code labels final events refs constants asked : List ℕ) (arch len count n m f : ℕ) (us : List tables.Use) (c : Choice) (ss : List Segment) : Type 0 where
  pub ready : Ready code labels events constants asked arch len count n m
  pub clear : every (ref_clear (laid_pooled arch len (take len code) (tables.entries (word_at labels) count) (tables.entries (event_at events) n) us (tables.entries (tables.ref_at refs) f) constants asked m)) (tables.entries (tables.ref_at refs) f) ≡ true
  pub laid : take (n + m) ss ≡ segments_of (laid_pooled arch len (take len code) (tables.entries (word_at labels) count) (tables.entries (event_at events) n) us (tables.entries (tables.ref_at refs) f) constants asked m) c
  pub known : (i : ℕ) → i < f → word_at refs (i * ref_words + 1) < count
  pub named : (i : ℕ) (b : Branch) → i < n → role_of (event_at events i) ≡ branches b → b.label < count
  pub moved : (l : ℕ) → l < count → word_at final l ≡ map_offset (take (n + m) ss) (word_at labels l)

abbrev pub any·ref : tables.Ref
any·ref = record { offset = 0; label = 0; code = 0; addend = 0 }

abbrev any·constant : Placed
any·constant = record { offset = 0; bytes = [] }

abbrev any·use : tables.Use
any·use = record { offset = 0; label = 0; code = 0 }

over_at : (xs ys zs : List ℕ) (n : ℕ) → length ys ≡ n → over (over xs 0 ys) n zs ≡ over xs 0 (ys ++ zs)
over_at xs ys zs n h =
    let e : n ≡ 0 + length ys = omega arith in
    ap (λ (k : ℕ). over (over xs 0 ys) k zs) e ∙ over_append xs 0 ys zs

-- what the calls leave in the output, one after another, is what is written in the end
pub written_in_order : (output code labels events refs constants asked : List ℕ) (c : Choice) (ss : List Segment) (arch len n m f : ℕ)
    {placed laid filled jumped last : List ℕ} {to : ℕ}
    → placed ≡ over output 0 (runs arch 0 0 (take len code) (tables.entries (event_at events) n) c) → to ≡ end_of_runs arch code events c len n
    → laid ≡ over placed to (pool_bytes arch to constants asked m) → filled ≡ refs_filled laid refs labels ss (n + m) f
    → jumped ≡ jumps_filled filled events labels c ss n → last ≡ pool_written jumped labels constants asked m
    → last ≡ code_written arch output code labels events refs constants asked c ss len n m f
written_in_order output code labels events refs constants asked c ss arch len n m f e1 e2 e3 e4 e5 e6 = rw (e6, e5, e4, e3, e2, e1)

-- a segment's new start, read from the table
pub start_segment : (ss made : List Segment) (k i : ℕ) → i < k → take k ss ≡ made → start_at ss i ≡ get_or (new_starts made) i 0
start_segment ss made k i h e =
    ap (λ (s : Segment). s.new_start) (sym (get_or-take k ss i zero_segment h))
    ∙ ap (λ (l : List Segment). (get_or l i zero_segment).new_start) e
    ∙ sym (get_or-map (λ (s : Segment). s.new_start) made i zero_segment)

module _ (code labels final events refs constants asked : List ℕ) (arch len count n m f : ℕ) (us : List tables.Use) (c : Choice) (ss : List Segment)
    (pl : Placing code labels final events refs constants asked arch len count n m f us c ss) where
  abbrev p : Pooled
  p = laid_pooled arch len (take len code) (tables.entries (word_at labels) count) (tables.entries (event_at events) n) us (tables.entries (tables.ref_at refs) f) constants asked m

  formed : WellFormed p
  formed = well_formed code labels events constants asked arch len count n m pl.ready us (tables.entries (tables.ref_at refs) f) pl.clear

  -- a label's new offset
  label_at_lem : (l : ℕ) → l < count → word_at final l ≡ map_offset (segments_of p c) (get_or p.labels l none)
  label_at_lem l h = rw (get_d_entries (word_at labels) count l none h, ← pl.laid) (pl.moved l h)

  pool_at : (j : ℕ) → j < m → word_at final (label_at constants asked j) ≡ map_offset (segments_of p c) (pool_offset len constants asked j)
  pool_at j h =
      label_at_lem (label_at constants asked j) (pl.ready.owned j h)
      ∙ ap (map_offset (segments_of p c)) (get_d_entries (word_at labels) count (label_at constants asked j) none (pl.ready.owned j h) ∙ pl.ready.stands j h)

  starts_at : (i : ℕ) → i < n → start_at ss i ≡ get_or (new_starts (segments_of p c)) i 0
  starts_at i h = start_segment ss (segments_of p c) (n + m) i (omega arith) pl.laid

  all_runs : runs arch 0 0 p.code p.events c
      ≡ runs arch 0 0 (take len code) (tables.entries (event_at events) n) c
      ++ pool_bytes arch (length (runs arch 0 0 (take len code) (tables.entries (event_at events) n) c)) constants asked m
  all_runs =
      let long : len ≡ length (take len code) = sym (length-take-le len code pl.ready.bytes.room) in
      (pool_runs arch (take len code) (tables.entries (event_at events) n) constants asked c len
      (length (runs arch 0 0 (take len code) (tables.entries (event_at events) n) c)) long
      (rw (← long) (recorded_ordered events n count len arch pl.ready.recorded)) refl m).whole

  -- What is written, call by call, is the fresh assembly.
  pub code_written_lem : (output placed laid : List ℕ) (to : ℕ)
      → placed ≡ over output 0 (runs arch 0 0 (take len code) (tables.entries (event_at events) n) c)
      → to ≡ length (runs arch 0 0 (take len code) (tables.entries (event_at events) n) c)
      → laid ≡ over placed to (pool_bytes arch to constants asked m)
      → length (assembled p c) ≤ length output
      → pool_written (jumps_filled (refs_filled laid refs final ss (n + m) f) events final c ss n) final constants asked m
      ≡ over output 0 (assembled p c)
  unfolding fill
  code_written_lem output placed laid to ep et el fits =
      let at = map_offset (segments_of p c) in
      let named : ℕ → ℕ = λ label. at (get_or p.labels label none) in
      let recorded = runs arch 0 0 (take len code) (tables.entries (event_at events) n) c in
      let whole : laid ≡ over output 0 (runs arch 0 0 p.code p.events c)
      = rw (el, ep, et, all_runs) (over_at output recorded (pool_bytes arch (length recorded) constants asked m) (length recorded) refl) in
      rw (
        refs_filled_lem laid refs final p.labels ss (segments_of p c) (n + m) f pl.laid (λ i h. label_at_lem (word_at refs (i * ref_words + 1)) (pl.known i h)),
        jumps_filled_lem (fill_refs at p.labels p.refs laid) events final constants asked c ss named (new_starts (segments_of p c)) n len m starts_at
            (λ i b h r. label_at_lem b.label (pl.named i b h r)),
        pool_filled (fill_jumps named p.events c (new_starts (segments_of p c)) (fill_refs at p.labels p.refs laid)) final constants asked at len m pool_at,
        whole,
      )
      (built_past p c formed (omega (arith, pooled_length code labels events constants asked arch len count n m pl.ready us (tables.entries (tables.ref_at refs) f), pl.ready.bytes.limit, pl.ready.pool.few, pool_start_bound len constants asked m pl.ready.pool m (omega arith)))
      output any·ref any·constant
      (λ i k h e. subst (λ (s : ℕ). Apart p (get_or p.refs i any·ref).offset s) (ap size_of e) (ref_apart p (get_or p.refs i any·ref) (every_at (ref_clear p) p.refs any·ref pl.clear i h)))
      (λ i h.
      let lt : i < m = omega (arith, length_entries (pool_placed len constants asked) m) in
      rw (get_d_entries (pool_placed len constants asked) m i any·constant lt)
      (pool_apart code labels events constants asked arch len count n m pl.ready us (tables.entries (tables.ref_at refs) f) i lt))
      (omega (arith, ap length (built_assembled p c formed), length_built p c))
      ∙ ap (over output 0) (built_assembled p c formed))

-- The same without a jump, on every architecture: the code as it is, the pool, the uses and the constants.
module _ (code labels uses constants asked : List ℕ) (arch len count u m : ℕ) (es : List LayoutEvent) (rs : List tables.Ref)
    (k : Keepable code labels uses constants asked len count u m) where
  abbrev q : Pooled
  q = tables_pooled arch len (take len code) (tables.entries (word_at labels) count) es (tables.entries (tables.use_at uses) u) rs constants asked m

  pub kept_length : length q.code ≡ pool_start len constants asked m
  kept_length =
      length-append (take len code) (pool_bytes arch len constants asked m)
      ∙ rw (length-take-le len code k.bytes.room) (length_pool_bytes arch len constants asked m)

  pub code_kept : (output placed laid : List ℕ)
      → placed ≡ over output 0 (take len code)
      → laid ≡ over placed len (pool_bytes arch len constants asked m)
      → pool_start len constants asked m ≤ length output
      → ((i : ℕ) → i < u → word_at uses (i * use_words) + size_of (decoded (word_at uses (i * use_words + 2))) ≤ pool_start len constants asked m)
      → pool_written (uses_filled laid uses labels u) labels constants asked m ≡ over output 0 (in_place q)
  unfolding in_place
  code_kept output placed laid ep el fits within =
      let front : laid ≡ over output 0 q.code = rw (el, ep) (over_at output (take len code) (pool_bytes arch len constants asked m) len (length-take-le len code k.bytes.room)) in
      rw (
        uses_filled_lem laid uses labels q.labels u (λ i h. sym (get_d_entries (word_at labels) count (word_at uses (i * use_words + 1)) none (k.known i h))),
        pool_filled (fill_uses q.labels q.uses laid) labels constants asked (λ (offset : ℕ). offset) len m k.stands,
        front,
      )
      (in_place_past q output any·use any·constant (rw kept_length fits)
      (λ i h kind e.
      let lt : i < u = omega (arith, length_entries (tables.use_at uses) u) in
      let same = get_d_entries (tables.use_at uses) u i any·use lt in
      rw (same, kept_length) (subst (λ (s : ℕ). word_at uses (i * use_words) + s ≤ pool_start len constants asked m) (ap size_of (ap (λ (x : tables.Use). decoded x.code) (sym same) ∙ e)) (within i lt)))
      (λ i h.
      let lt : i < m = omega (arith, length_entries (pool_placed len constants asked) m) in
      rw (get_d_entries (pool_placed len constants asked) m i any·constant lt, kept_length, constant_size_lem constants asked m k.pool i lt)
      (omega (arith, pool_start_suc len constants asked i, pool_start_grows len constants asked (suc i) m lt))))
