-- What the calls of a relaxed finish are handed, from the entries that are checked and the layout that the rounds leave.
use mathlib.Core.Path.{◌≡◌, refl, sym, ap, ◌∙◌, subst}
use mathlib.Core.Logic.{◌≢◌}
use mathlib.Core.Bool.{true}
use mathlib.Core.List.{List, [], ◌∷◌, ◌++◌}
use Prim.Native.Nat.{ℕ, ◌+◌, ◌*◌, ◌≤◌, ◌<◌}
use native.Mathlib.Omega.{arith}
use lib.ListN.{length, get_or, take, get_or-append}
use lib.Seq.{length-take-le, take-take}
use borrow.Author.Tests.{ne_eqb}
use Rattle.seqs.specs.Over.{over}
use Rattle.words.specs.Words.{word_at}
use Rattle.fields.specs.Kinds.{Decoded, Use, Unsupported, Unknown, decoded}
use Rattle.relax.specs.declared.LayoutEvent.{LayoutEvent}
use Rattle.relax.specs.declared.Segment.{Segment}
use Rattle.relax.specs.Events.{event_at, end_of, no_event}
use Rattle.buffer.specs.State.{none}
use Rattle.buffer.specs.Tables.{most_entries, most_code, ref_words, ref_size}
use Rattle.recording.specs.Sound.{RefsSound}
use Rattle.recording.specs.View as tables
use Rattle.recording.proofs.Views.{length_entries, get_d_entries}
use Rattle.fresh.specs.Pooled.{Pooled}
use Rattle.fresh.specs.Fresh.{Choice, is_long, others}
use Rattle.fresh.specs.Segments.{segment, segments, decided, map_offset, segments_of}
use Rattle.fresh.specs.Order.{Apart, Ordered, RefsLie, PoolLies, WellFormed}
use Rattle.fresh.specs.steps.Runs.{runs, new_starts}
use Rattle.fresh.proofs.Segments.{placed_runs, length_placed}
use Rattle.fresh.proofs.Loops.{length_runs}
use Rattle.fresh.proofs.Within.{mapped_within, field_within}
use Rattle.fresh.specs.Forms.{role_of}
use Rattle.pool.specs.steps.Pool.{label_at, bytes_at, pool_start, pool_offset, pool_event, PoolRoom, pooled_bound}
use Rattle.pool.proofs.Turns.{from_pool_start, pool_start_bound, pool_offset_bound}
use Rattle.layout.specs.steps.Layout.{all_events, finished_length, Recorded, Rising, Labelled}
use Rattle.layout.proofs.Pooling.{all_ordered, all_modest, length_all}
use Rattle.layout.proofs.Table.{table_laid, rising_laid}
use Rattle.emit.specs.steps.Emit.{Within, start_at, RefsFit, RefsKnown, JumpsFit, WordsFit}
use Rattle.fields.specs.Kinds.{size_of}
use Rattle.checks.specs.steps.Fields.{refs_clear}
use Rattle.seqs.proofs.Every.{every_at}
use Rattle.seqs.specs.Every.{every}
use Rattle.finish.specs.Refusals.{ref_clear}
use Rattle.finish.specs.steps.Tables.{laid_pooled}
use Rattle.finish.specs.steps.Ready.{Ready, Clearing, Writing, end_of_runs}
use Rattle.finish.proofs.PooledInOrder.{recorded_ordered, recorded_modest, recorded_writes, jump_label, offset_lies, ref_apart, constant_size_lem, pooled_length, well_formed, pool_apart}
use Rattle.finish.proofs.ScansAgree.{refs_clear_lem}
use Rattle.finish.proofs.FinishedCode.{any·ref, start_segment}
use Rattle.finish.proofs.PooledRuns.{PoolRuns, pool_runs}

-- the events as a layout is handed them
pub recorded : {code labels events constants asked : List ℕ} {arch len count n m : ℕ} → Ready code labels events constants asked arch len count n m → Recorded events n len
recorded {events} {arch} {len} {count} {n} ready =
    record {
      room = omega (arith, ready.recorded.room);
      ordered = recorded_ordered events n count len arch ready.recorded;
      modest = recorded_modest events n count len arch ready.recorded;
      small = ready.bytes.limit;
    }

-- the segments of the first events are the first of the segments
take_segments : (xs ys : List LayoutEvent) (o n : ℕ) (c : Choice) → take (length xs) (segments o n (xs ++ ys) c) ≡ segments o n xs c
unfolding segments
take_segments [] ys o n c = refl
take_segments (x ∷ xs) ys o n c = ap (λ l. segment o n x (is_long c) ∷ l) (take_segments xs ys (end_of x) (segment o n x (is_long c)).new_end (others c))

module _ {code labels events constants asked : List ℕ} {arch len count n m : ℕ} (ready : Ready code labels events constants asked arch len count n m)
    (before ss : List Segment) (c : Choice) (laid : ss ≡ over before 0 (segments 0 0 (all_events events n len constants asked m) c))
    (few : n + m ≤ most_entries) (room : n + m ≤ length before) where
  abbrev es : List LayoutEvent
  es = all_events events n len constants asked m

  long_es : length es ≡ n + m
  long_es = length_all events n len constants asked m

  rec : Recorded events n len
  rec = recorded ready

  pub rising_all : Rising ss (n + m)
  rising_all =
      subst (λ (k : ℕ). Rising ss k) long_es
      (rising_laid before ss es c laid (omega (arith, long_es)) (pool_start len constants asked m) (all_ordered events n len constants asked rec m)
      (all_modest events n len constants asked rec m)
      (omega (arith, ready.bytes.limit, ready.pool.few, pool_start_bound len constants asked m ready.pool m (omega arith)))
      (omega (arith, long_es)))

  pub rising : Rising ss n
  rising = record {
    fits = omega (arith, rising_all.fits);
    rises = λ i j h k. rising_all.rises i j h (omega arith);
    small = λ i h. rising_all.small i (omega arith);
  }

  pub table_all : take (n + m) ss ≡ segments 0 0 es c
  table_all = rw (← long_es) (table_laid before ss es c laid (omega (arith, long_es)))

  pub table_first : take n ss ≡ segments 0 0 (tables.entries (event_at events) n) c
  table_first =
      sym (take-take n (n + m) ss (omega arith))
      ∙ ap (take n) table_all
      ∙ ap (λ (k : ℕ). take k (segments 0 0 es c)) (sym (length_entries (event_at events) n))
      ∙ take_segments (tables.entries (event_at events) n) (tables.entries (pool_event len constants asked) m) 0 0 c

  -- where the recorded code ends
  abbrev to : ℕ
  to = length (runs arch 0 0 (take len code) (tables.entries (event_at events) n) c)

  size : length (take len code) ≡ len
  size = length-take-le len code ready.bytes.room

  first_ordered : Ordered 0 (length (take len code)) (tables.entries (event_at events) n)
  first_ordered = rw size (recorded_ordered events n count len arch ready.recorded)

  -- the recorded code alone, in good order
  alone : Pooled
  alone = record { arch = arch; code = take len code; events = tables.entries (event_at events) n; labels = []; uses = []; refs = []; pool = [] }

  alone_formed : WellFormed alone
  unfolding alone RefsLie PoolLies
  alone_formed = record { ordered = first_ordered; landed = λ l bound. absurd (bound refl); fields = tt; constants = tt }

  pub end_mapped : map_offset (take n ss) len ≡ to
  unfolding alone map_offset
  end_mapped =
      rw table_first
      (rw (ne_eqb len none (λ e. omega (arith, ready.bytes.limit)), map_offset)
      (ap (λ (k : ℕ). decided (segments 0 0 (tables.entries (event_at events) n) c) k k) (sym size)
      ∙ sym (length_placed alone c alone_formed)
      ∙ ap length (placed_runs alone c alone_formed)))

  -- the finished length, and the pool within it
  pooled_runs : PoolRuns arch (take len code) (tables.entries (event_at events) n) constants asked c m len to
  pooled_runs = pool_runs arch (take len code) (tables.entries (event_at events) n) constants asked c len to (sym size) first_ordered refl m

  pub pool_ends : pool_start to constants asked m ≡ finished_length es c (pool_start len constants asked m)
  pool_ends = sym pooled_runs.here

-- a bound label's offset is small
pub landed_small : (code labels events constants asked : List ℕ) (arch len count n m : ℕ) (ready : Ready code labels events constants asked arch len count n m)
    → (l : ℕ) → l < count → word_at labels l ≢ none → word_at labels l ≤ pooled_bound
landed_small code labels events constants asked arch len count n m ready l h bound =
    omega (
      arith,
      (offset_lies code labels events constants asked arch len count n m ready (all_events events n len constants asked m) refl (word_at labels l) (ready.landed l h) bound).0,
      ready.bytes.limit,
      ready.pool.few,
      pool_start_bound len constants asked m ready.pool m (omega arith),
    )

module _ {code labels events constants asked : List ℕ} {arch len count n m : ℕ} (ready : Ready code labels events constants asked arch len count n m) where
  abbrev ends : ℕ
  ends = pool_start len constants asked m

  pub end_small : pool_start len constants asked m ≤ pooled_bound
  end_small = omega (arith, ready.bytes.limit, ready.pool.few, pool_start_bound len constants asked m ready.pool m (omega arith))

  -- the jumps' labels, for the rounds
  pub labelled : Labelled events labels n
  labelled = record {
    known = λ i h. record {
      room = λ b r. omega (arith, jump_label events n count len arch ready.recorded i b h r, ready.room);
      small = λ b r bound.
          omega (arith, landed_small code labels events constants asked arch len count n m ready b.label (jump_label events n count len arch ready.recorded i b h r) bound);
    };
  }

  -- the events and the pool, for 17
  pub clearing : (refs : List ℕ) (f end : ℕ) → f * ref_size ≤ length refs → n ≤ most_entries → end ≡ pool_start len constants asked m
      → Clearing refs events labels constants asked f n m len end
  clearing refs f end room few e = record {
    refs_room = room;
    events_room = omega (arith, ready.recorded.room);
    few = few;
    pool_few = ready.pool.few;
    ends = e;
    ordered = record {
      forward = λ j h. omega arith;
      order = λ i j h k. (ready.recorded.entry j k).follows i h;
    };
    placed = record {
      room = ready.pool.room;
      listed = ready.pool.listed;
      known = ready.named.known;
      stands = ready.stands;
    };
  }

  -- the table of labels, whose offsets are mapped
  pub labels_fit_lem : WordsFit labels 1 count
  labels_fit_lem = record {
    some = omega arith;
    entry = λ i h. omega (arith, ready.room);
    recorded = λ i h bound.
        let e : i * 1 ≡ i = omega arith in
        rw e (omega (arith, landed_small code labels events constants asked arch len count n m ready i h (λ z. bound (rw e z))));
  }

pub within_size : (d : Decoded) (offset room : ℕ) → offset + size_of d ≤ room → Within d offset room
within_size (Use k) offset room h = h
within_size Unsupported offset room h = tt
within_size Unknown offset room h = tt

module _ {code labels events constants asked refs : List ℕ} {arch len count n m f : ℕ} (ready : Ready code labels events constants asked arch len count n m)
    (referred : RefsSound refs f arch count) (clear : refs_clear refs f events n len constants asked m ≡ true) where
  abbrev pooled·of : List tables.Use → Pooled
  pooled·of us =
      laid_pooled arch len (take len code) (tables.entries (word_at labels) count) (tables.entries (event_at events) n) us (tables.entries (tables.ref_at refs) f) constants asked m

  pub clear_all : (us : List tables.Use) → every (ref_clear (pooled·of us)) (tables.entries (tables.ref_at refs) f) ≡ true
  clear_all us =
      refs_clear_lem (pooled·of us) refs events constants asked f n m len refl refl
      (pooled_length code labels events constants asked arch len count n m ready us (tables.entries (tables.ref_at refs) f))
      ∙ clear

  pub formed : (us : List tables.Use) → WellFormed (pooled·of us)
  formed us = well_formed code labels events constants asked arch len count n m ready us (tables.entries (tables.ref_at refs) f) (clear_all us)

  pub ref_beside : (us : List tables.Use) (i : ℕ) → i < f → Apart (pooled·of us) (word_at refs (i * ref_words)) (size_of (decoded (word_at refs (i * ref_words + 2))))
  ref_beside us i h =
      let k : i < length (tables.entries (tables.ref_at refs) f) = omega (arith, length_entries (tables.ref_at refs) f) in
      let e = get_d_entries (tables.ref_at refs) f i any·ref h in
      subst (λ (x : tables.Ref). Apart (pooled·of us) x.offset (size_of (decoded x.code))) e
      (ref_apart (pooled·of us) (get_or (tables.entries (tables.ref_at refs) f) i any·ref)
      (every_at (ref_clear (pooled·of us)) (tables.entries (tables.ref_at refs) f) any·ref (clear_all us) i k))

  ref_small : (i : ℕ) → i < f → word_at refs (i * ref_words) ≤ pooled_bound
  ref_small i h =
      omega (
        arith,
        (ref_beside [] i h).0,
        pooled_length code labels events constants asked arch len count n m ready [] (tables.entries (tables.ref_at refs) f),
        end_small ready,
      )

  -- the refs, for 18
  pub refs_known : RefsKnown refs labels f
  refs_known = record {
    each = λ i h. record {
      entry = omega (arith, referred.room);
      known = omega (arith, (referred.entry i h).label, ready.room);
      recorded = λ bound. omega (arith, ref_small i h);
      bound = λ bound. omega (arith, landed_small code labels events constants asked arch len count n m ready (word_at refs (i * ref_words + 1)) (referred.entry i h).label bound);
    };
  }

  module _ (before ss : List Segment) (c : Choice) (laid : ss ≡ over before 0 (segments 0 0 (all_events events n len constants asked m) c))
      (few : n + m ≤ most_entries) (room : n + m ≤ length before) (chosen : length c ≡ n + m) (final output : List ℕ)
      (moved : (l : ℕ) → l < count → word_at final l ≡ map_offset (take (n + m) ss) (word_at labels l)) (same : length final ≡ length labels)
      (fits : finished_length (all_events events n len constants asked m) c (pool_start len constants asked m) ≤ length output) (limit : length output ≤ most_code) where
    abbrev p : Pooled
    p = pooled·of []

    -- the code is as long as the layout says
    length_all_runs : length (runs arch 0 0 p.code p.events c) ≤ length output
    length_all_runs =
        omega (
          arith,
          length_runs arch p.events 0 0 p.code c (formed []).ordered,
          pooled_length code labels events constants asked arch len count n m ready [] (tables.entries (tables.ref_at refs) f),
          fits,
        )

    table : take (n + m) ss ≡ segments_of p c
    table = table_all ready before ss c laid few room

    refs_fit_lem : RefsFit (length output) refs final ss (n + m) f
    refs_fit_lem = record {
      recorded = λ i h bound. omega (arith, ref_small i h);
      each = λ i h. record {
        entry = omega (arith, referred.room);
        known = omega (arith, same, (referred.entry i h).label, ready.room);
        within =
            within_size (decoded (word_at refs (i * ref_words + 2))) (map_offset (take (n + m) ss) (word_at refs (i * ref_words))) (length output)
            (omega (
              arith,
              ap (λ (ss : List Segment). map_offset ss (word_at refs (i * ref_words))) table,
              mapped_within p c (formed []) (word_at refs (i * ref_words)) (size_of (decoded (word_at refs (i * ref_words + 2)))) (omega (arith, ref_small i h)) (ref_beside [] i h),
              length_all_runs,
            ));
      };
    }

    starts_at : (i : ℕ) → i < n → start_at ss i ≡ get_or (new_starts (segments_of p c)) i 0
    starts_at i h = start_segment ss (segments_of p c) (n + m) i (omega arith) table

    event_is : (i : ℕ) → i < n → get_or p.events i no_event ≡ event_at events i
    event_is i h =
        get_or-append (tables.entries (event_at events) n) (tables.entries (pool_event len constants asked) m) no_event i
        (omega (arith, length_entries (event_at events) n))
        ∙ get_d_entries (event_at events) n i no_event h

    jumps_fit : JumpsFit (length output) events final c ss n
    jumps_fit = record {
      chosen = omega (arith, chosen);
      laid = omega (arith, (rising_all ready before ss c laid few room).fits);
      each = λ i h. record {
        entry = omega (arith, ready.recorded.room);
        known = λ b r. omega (arith, same, jump_label events n count len arch ready.recorded i b h r, ready.room);
        within = λ b r.
            omega (
              arith,
              starts_at i h,
              field_within p c (formed []) i b (omega (arith, length_all events n len constants asked m)) (ap role_of (event_is i h) ∙ r),
              length_all_runs,
            );
        small = omega (arith, (rising_all ready before ss c laid few room).small i (omega arith));
      };
    }

    pool_room : PoolRoom output final constants asked m
    pool_room = record {
      within = λ j h.
          omega (
            arith,
            moved (label_at constants asked j) (ready.owned j h),
            ap (map_offset (take (n + m) ss)) (ready.stands j h),
            ap (λ (ss : List Segment). map_offset ss (pool_offset len constants asked j)) table,
            mapped_within p c (formed []) (pool_offset len constants asked j) (length (bytes_at constants asked j))
                (omega (arith, ready.bytes.limit, ready.pool.few, pool_offset_bound len constants asked m ready.pool j h))
                (pool_apart code labels events constants asked arch len count n m ready [] (tables.entries (tables.ref_at refs) f) j h),
            constant_size_lem constants asked m ready.pool j h,
            length_all_runs,
          );
    }

    to_fits : end_of_runs arch code events c len n ≤ length output
    to_fits =
        omega (
          arith,
          from_pool_start (end_of_runs arch code events c len n) constants asked m,
          pool_ends ready before ss c laid few room,
          fits,
        )

    -- What a relaxed finish writes the code from.
    pub writing : Writing output code final events refs constants asked c ss arch len n m f (end_of_runs arch code events c len n)
    writing = record {
      small = ready.bytes.limit;
      rising = rising ready before ss c laid few room;
      rising_all = rising_all ready before ss c laid few room;
      emits = record {
        recorded = omega (arith, ready.recorded.room);
        chosen = omega (arith, chosen);
        laid = table_first ready before ss c laid few room;
        ordered = recorded_ordered events n count len arch ready.recorded;
        coded = ready.bytes.room;
        writes = recorded_writes events n count len arch ready.recorded;
        room = to_fits;
      };
      ends = end_mapped ready before ss c laid few room;
      near = omega (arith, to_fits, limit);
      pool = ready.pool;
      pooled = rw (pool_ends ready before ss c laid few room) fits;
      filled = refs_fit_lem;
      jumped = jumps_fit;
      named = record { known = λ j h. omega (arith, same, ready.named.known j h) };
      written = pool_room;
    }
