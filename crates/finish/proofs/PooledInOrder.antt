-- A pooled recording whose entries are checked is in good order.
use mathlib.Core.Path.{◌≡◌, refl, sym, ap, ◌∙◌}
use mathlib.Core.Logic.{◌⊎◌, inl, inr, ◌≢◌, ⊎_elim}
use mathlib.Core.Bool.{Bool, true, false, not, ◌||◌}
use mathlib.Core.List.{List, [], ◌++◌}
use Prim.Native.Nat.{ℕ, suc, ◌+◌, ◌-◌, ◌*◌, ◌%◌, ◌≤◌, ◌<◌}
use native.Mathlib.Nat.{mod-eq_of_lt}
use native.Mathlib.Omega.{arith}
use lib.ListN.{length, get_or, take, drop, length-append, length-drop, get_or-append, get_or-eq_default}
use lib.Seq.{length-take-le, get_or-append-add}
use lib.Dec.{eqb, leb}
use borrow.Author.Tests.{leb-true, ne_eqb}
use Rattle.seqs.proofs.Booleans.{true_is_not_false, both_true}
use Rattle.seqs.proofs.Numbers.{lt_or_ge, eq_or_ne}
use Rattle.words.specs.Words.{word_at}
use Rattle.relax.specs.declared.LayoutEvent.{LayoutEvent}
use Rattle.relax.specs.declared.RelaxableJump.{RelaxableJump}
use Rattle.relax.specs.Events.{condition_of, event_of, event_at, end_of, start_of, no_event}
use Rattle.relax.proofs.Columns.{start_at_lem, extent_at, end_at_lem}
use Rattle.buffer.specs.State.{none}
use Rattle.buffer.specs.Refusals.{is_alignment}
use Rattle.seqs.specs.Pick.{pick}
use Rattle.recording.specs.Sound.{start_at, end_at, LabelSound, FormOf, EventsSound}
use Rattle.recording.specs.View.{entries, Use, Ref}
use Rattle.recording.proofs.Views.{length_entries, get_d_entries}
use Rattle.fresh.specs.Pooled.{Pooled}
use Rattle.fresh.specs.Order.{Ordered, Clear, Lies, Apart, WellFormed}
use Rattle.fresh.specs.steps.Runs.{Small, Modest}
use Rattle.fresh.proofs.Entries.{clear_of, ordered_of, apart_lies, refs_lie, pool_lies, modest_of}
use Rattle.fresh.specs.Forms.{Branch, pads, branches, branch_of, role_of}
use Rattle.pool.specs.steps.Pool.{size_at, bytes_at, pool_start, pool_offset, pool_event, pool_bytes, PoolFits}
use Rattle.pool.proofs.Turns.{length_pool_bytes, pool_start_grows, from_pool_start, pool_start_suc, pool_offset_bound}
use Rattle.fields.specs.Kinds.{decoded}
use Rattle.buffer.specs.Tables.{constant_size, constant_head}
use Rattle.emit.specs.steps.Emit.{Encodes, Writes}
use Rattle.fields.specs.Kinds.{size_of}
use Rattle.seqs.proofs.Every.{every_at}
use Rattle.seqs.specs.Every.{every}
use Rattle.finish.specs.Refusals.{ref_clear}
use Rattle.finish.specs.steps.Tables.{laid_pooled, pool_placed}
use Rattle.finish.specs.steps.Ready.{Landed, Ready}

-- the events of the table follow one another within the code
pub recorded_ordered : (events : List ℕ) (n labels len arch : ℕ) → EventsSound events n labels len arch → Ordered 0 len (entries (event_at events) n)
recorded_ordered events n labels len arch s =
    ordered_of (entries (event_at events) n) 0 len (omega arith)
    (λ i h.
    let lt : i < n = omega (arith, length_entries (event_at events) n) in
    rw (get_d_entries (event_at events) n i no_event lt, start_at_lem events i, extent_at events i) (omega arith, (s.entry i lt).ends))
    (λ i j h k.
    let lt : j < n = omega (arith, length_entries (event_at events) n) in
    let li : i < n = omega (arith, h, lt) in
    rw (get_d_entries (event_at events) n i no_event li, get_d_entries (event_at events) n j no_event lt, end_at_lem events i, start_at_lem events j)
    ((s.entry j lt).follows i h))

pub alignment_range : (n : ℕ) → is_alignment n ≡ true → (0 < n) × (n ≤ 4096)
unfolding is_alignment
alignment_range n h =
    let f = both_true (not (eqb n 0)) (eqb (4096 % n) 0) h in
    ⊎_elim
    (λ (zero·n : n ≡ 0). absurd (true_is_not_false (sym f.0 ∙ rw zero·n refl)))
    (λ (some : n ≢ 0).
    ⊎_elim
    (λ (past : 4096 < n). absurd (true_is_not_false (sym f.1 ∙ rw (mod-eq_of_lt past) refl)))
    (λ (within : n ≤ 4096). (omega arith, within))
    (lt_or_ge 4096 n))
    (eq_or_ne n 0)

-- jumps have 2 to 15 bytes, and alignments are on 1 to 4,096
column_modest : (labels kind start len what cc : ℕ) → FormOf labels kind start len what cc → Small (event_of kind start len what cc)
unfolding event_of pick
column_modest labels kind start len what cc (inl j) = rw j.0 (j.1, j.2)
column_modest labels kind start len what cc (inr a) = rw a.0 (alignment_range what a.1)

pub recorded_modest : (events : List ℕ) (n labels len arch : ℕ) → EventsSound events n labels len arch → Modest (entries (event_at events) n)
unfolding event_at
recorded_modest events n labels len arch s =
    modest_of (entries (event_at events) n)
    (λ i h.
    let lt : i < n = omega (arith, length_entries (event_at events) n) in
    rw (get_d_entries (event_at events) n i no_event lt) (column_modest labels _ _ _ _ _ (s.entry i lt).form))

-- a jump of the table names a known label, and its condition has an opcode
column_label : (labels kind start len what on : ℕ) (b : Branch) → FormOf labels kind start len what on → role_of (event_of kind start len what on) ≡ branches b
    → b.label < labels
unfolding event_of pick role_of
column_label labels kind start len what on b (inl f) e =
    let jump : RelaxableJump = record { start = start; len = len; label = what; cc = condition_of on } in
    let role : branches (branch_of jump) ≡ branches b = rw f.0 at e in
    let named : what ≡ b.label = cc in
    omega (arith, named, f.3)
column_label labels kind start len what on b (inr f) e =
    let role : pads ≡ branches b = rw f.0 at e in
    let z : ◌≡◌ {A = ℕ} 0 1 = cc in
    absurd (omega arith)

pub jump_label : (events : List ℕ) (n labels len arch : ℕ) → EventsSound events n labels len arch → (i : ℕ) (b : Branch) → i < n
    → role_of (event_at events i) ≡ branches b → b.label < labels
unfolding event_at
jump_label events n labels len arch s i b h e = column_label labels _ _ _ _ _ b (s.entry i h).form e

condition_encodes : (cc : ℕ) → cc ≤ 16 → Encodes (condition_of cc)
unfolding condition_of pick
condition_encodes cc h = ⊎_elim (λ (e : cc ≡ 16). rw e tt) (λ (ne : cc ≢ 16). rw (ne_eqb cc 16 ne, pick) (omega arith)) (eq_or_ne cc 16)

column_writes : (labels kind start len what cc : ℕ) → FormOf labels kind start len what cc → Writes (event_of kind start len what cc)
unfolding event_of pick
column_writes labels kind start len what cc (inl f) = rw f.0 (condition_encodes cc f.4)
column_writes labels kind start len what cc (inr f) = rw f.0 tt

pub recorded_writes : (events : List ℕ) (n labels len arch : ℕ) → EventsSound events n labels len arch → (i : ℕ) → i < n → Writes (event_at events i)
unfolding event_at
recorded_writes events n labels len arch s i h = column_writes labels _ _ _ _ _ (s.entry i h).form

-- an event of the pooled recording is one of the table or one of the pool
pub record AtTable (events : List ℕ) (n i : ℕ) (e : LayoutEvent) : Type 0 where
  pub below : i < n
  pub is : e ≡ event_at events i

pub record AtPool (constants asked : List ℕ) (from n m i : ℕ) (e : LayoutEvent) : Type 0 where
  pub number : ℕ
  pub place : i ≡ n + number
  pub below : number < m
  pub is : e ≡ pool_event from constants asked number

pub event_at_lem : (events constants asked : List ℕ) (from n m i : ℕ) (d : LayoutEvent) → i < n + m
    → AtTable events n i (get_or (entries (event_at events) n ++ entries (pool_event from constants asked) m) i d)
    ⊎ AtPool constants asked from n m i (get_or (entries (event_at events) n ++ entries (pool_event from constants asked) m) i d)
event_at_lem events constants asked from n m i d h =
    ⊎_elim
    (λ (lt : i < n).
    inl record {
      below = lt;
      is = get_or-append (entries (event_at events) n) (entries (pool_event from constants asked) m) d i (omega (arith, length_entries (event_at events) n)) ∙ get_d_entries (event_at events) n i d lt;
    })
    (λ (ge : n ≤ i).
    inr record {
      number = i - n;
      place = omega arith;
      below = omega arith;
      is =
          let e : i ≡ length (entries (event_at events) n) + (i - n) = omega (arith, length_entries (event_at events) n) in
          ap (λ (k : ℕ). get_or (entries (event_at events) n ++ entries (pool_event from constants asked) m) k d) e
          ∙ get_or-append-add (entries (event_at events) n) (entries (pool_event from constants asked) m) (i - n) d
          ∙ get_d_entries (pool_event from constants asked) m (i - n) d (omega arith);
    })
    (lt_or_ge i n)

-- each constant stands before the pool's end, and before the alignment of any after it
offset_before : (from : ℕ) (constants asked : List ℕ) (i j : ℕ) → i < j → pool_offset from constants asked i ≤ pool_start from constants asked j
offset_before from constants asked i j h = omega (arith, pool_start_suc from constants asked i, pool_start_grows from constants asked (suc i) j (omega arith))

module _ (code labels events constants asked : List ℕ) (arch len count n m : ℕ) (ready : Ready code labels events constants asked arch len count n m)
    (es : List LayoutEvent) (is : es ≡ entries (event_at events) n ++ entries (pool_event len constants asked) m) where
  abbrev e·at : ℕ → LayoutEvent
  e·at i = get_or es i no_event

  many : length es ≡ n + m
  many =
      ap length is
      ∙ length-append (entries (event_at events) n) (entries (pool_event len constants asked) m)
      ∙ rw (length_entries (event_at events) n, length_entries (pool_event len constants asked) m)

  at : (i : ℕ) → i < length es → AtTable events n i (e·at i) ⊎ AtPool constants asked len n m i (e·at i)
  at i h = rw is (event_at_lem events constants asked len n m i no_event (omega (arith, many)))

  table_start : (i : ℕ) → AtTable events n i (e·at i) → start_of (e·at i) ≡ start_at events i
  table_start i a = rw a.is (start_at_lem events i)

  table_end : (i : ℕ) → AtTable events n i (e·at i) → end_of (e·at i) ≡ end_at events i
  table_end i a = rw a.is (end_at_lem events i)

  pool_start_lem : (i : ℕ) (a : AtPool constants asked len n m i (e·at i)) → start_of (e·at i) ≡ pool_start len constants asked a.number
  pool_start_lem i a = rw a.is

  pool_end : (i : ℕ) (a : AtPool constants asked len n m i (e·at i)) → end_of (e·at i) ≡ pool_offset len constants asked a.number
  pool_end i a = rw a.is

  ends_within : (i : ℕ) → i < length es → end_of (e·at i) ≤ pool_start len constants asked m
  ends_within i h =
      ⊎_elim
      (λ a. omega (arith, table_end i a, (ready.recorded.entry i a.below).ends, from_pool_start len constants asked m))
      (λ a. omega (arith, pool_end i a, offset_before len constants asked a.number m a.below))
      (at i h)

  follow : (i j : ℕ) → i < j → j < length es → end_of (e·at i) ≤ start_of (e·at j)
  follow i j h k =
      ⊎_elim
      (λ (b : AtTable events n j (e·at j)).
      ⊎_elim
      (λ (a : AtTable events n i (e·at i)). omega (arith, table_end i a, table_start j b, (ready.recorded.entry j b.below).follows i h))
      (λ (a : AtPool constants asked len n m i (e·at i)). absurd (omega (arith, a.place, b.below)))
      (at i (omega arith)))
      (λ (b : AtPool constants asked len n m j (e·at j)).
      ⊎_elim
      (λ (a : AtTable events n i (e·at i)). omega (arith, table_end i a, pool_start_lem j b, (ready.recorded.entry i a.below).ends, from_pool_start len constants asked b.number))
      (λ (a : AtPool constants asked len n m i (e·at i)). omega (arith, pool_end i a, pool_start_lem j b, offset_before len constants asked a.number b.number (omega (arith, a.place, b.place))))
      (at i (omega arith)))
      (at j k)

  -- the events follow one another, and end within the pooled code
  pub events_ordered : Ordered 0 (pool_start len constants asked m) es
  events_ordered = ordered_of es 0 (pool_start len constants asked m) (omega arith) (λ i h. (omega arith, ends_within i h)) follow

  -- a label of the recording or of the pool lies inside no event
  pub offset_lies : (w : ℕ) → Landed events n len constants asked m w → w ≢ none → (w ≤ pool_start len constants asked m) × Clear w es
  offset_lies w landed bound =
      ⊎_elim
      (λ (sound : LabelSound events n len w).
      ⊎_elim
      (λ (e : w ≡ none). absurd (bound e))
      (λ (in_code : (w ≤ len) × ((j : ℕ) → j < n → (w ≤ start_at events j) ⊎ (end_at events j ≤ w))). (
        omega (arith, in_code.0, from_pool_start len constants asked m),
        clear_of es w
            (λ i h.
            ⊎_elim
            (λ (a : AtTable events n i (e·at i)).
            ⊎_elim
            (λ (x : w ≤ start_at events i). inl (omega (arith, table_start i a)))
            (λ (y : end_at events i ≤ w). inr (omega (arith, table_end i a)))
            (in_code.1 i a.below))
            (λ (a : AtPool constants asked len n m i (e·at i)). inl (omega (arith, pool_start_lem i a, in_code.0, from_pool_start len constants asked a.number)))
            (at i h)),
      ))
      sound)
      (λ (pooled : (j : ℕ) × (j < m) × (w ≡ pool_offset len constants asked j)).
      let j = pooled.0 in (
        omega (arith, pooled.2, offset_before len constants asked j m pooled.1),
        clear_of es w
            (λ i h.
            ⊎_elim
            (λ (a : AtTable events n i (e·at i)).
            inr (omega (arith, table_end i a, (ready.recorded.entry i a.below).ends, from_pool_start len constants asked j, pooled.2)))
            (λ (a : AtPool constants asked len n m i (e·at i)).
            ⊎_elim
            (λ (lt : a.number < j). inr (omega (arith, pool_end i a, offset_before len constants asked a.number j lt, pooled.2)))
            (λ (ge : j ≤ a.number).
            ⊎_elim
            (λ (same : a.number ≡ j). inr (omega (arith, pool_end i a ∙ ap (pool_offset len constants asked) same, pooled.2)))
            (λ (ne : a.number ≢ j). inl (omega (arith, pool_start_lem i a, offset_before len constants asked j a.number (omega arith), pooled.2)))
            (eq_or_ne a.number j))
            (lt_or_ge a.number j))
            (at i h)),
      ))
      landed

  -- a constant of the pool stands beside every event
  pub constant_beside : (j : ℕ) → j < m → (i : ℕ) → i < length es
      → (pool_offset len constants asked j + size_at constants asked j ≤ start_of (e·at i)) ⊎ (end_of (e·at i) ≤ pool_offset len constants asked j)
  constant_beside j k i h =
      ⊎_elim
      (λ (a : AtTable events n i (e·at i)). inr (omega (arith, table_end i a, (ready.recorded.entry i a.below).ends, from_pool_start len constants asked j)))
      (λ (a : AtPool constants asked len n m i (e·at i)).
      ⊎_elim
      (λ (lt : j < a.number). inl (omega (arith, pool_start_lem i a, pool_start_suc len constants asked j, pool_start_grows len constants asked (suc j) a.number lt)))
      (λ (ge : a.number ≤ j).
      ⊎_elim
      (λ (same : a.number ≡ j). inr (omega (arith, pool_end i a ∙ ap (pool_offset len constants asked) same)))
      (λ (ne : a.number ≢ j). inr (omega (arith, pool_end i a, offset_before len constants asked a.number j (omega arith))))
      (eq_or_ne a.number j))
      (lt_or_ge j a.number))
      (at i h)

either_true : (a b : Bool) → (a || b) ≡ true → (a ≡ true) ⊎ (b ≡ true)
either_true true b h = inl refl
either_true false b h = inr h

-- a ref that is not refused with 17 lies apart from the events
pub ref_apart : (p : Pooled) (f : Ref) → ref_clear p f ≡ true → Apart p f.offset (size_of (decoded f.code))
unfolding ref_clear
ref_apart p f h =
    let size = size_of (decoded f.code) in
    let both = both_true (leb (f.offset + size) (length p.code)) (every (λ (e : LayoutEvent). leb (end_of e) f.offset || leb (f.offset + size) (start_of e)) p.events) h in (
      leb-true (f.offset + size) (length p.code) both.0,
      λ i k.
          ⊎_elim
          (λ (a : leb (end_of (get_or p.events i no_event)) f.offset ≡ true). inr (leb-true (end_of (get_or p.events i no_event)) f.offset a))
          (λ (b : leb (f.offset + size) (start_of (get_or p.events i no_event)) ≡ true). inl (leb-true (f.offset + size) (start_of (get_or p.events i no_event)) b))
          (either_true _ _ (every_at (λ (e : LayoutEvent). leb (end_of e) f.offset || leb (f.offset + size) (start_of e)) p.events no_event both.1 i k)),
    )

-- a constant has as many bytes as its entry says
pub constant_size_lem : (constants asked : List ℕ) (m : ℕ) → PoolFits constants asked m → (j : ℕ) → j < m → length (bytes_at constants asked j) ≡ size_at constants asked j
constant_size_lem constants asked m pool j h =
    length-take-le (size_at constants asked j) (drop (word_at asked j * constant_size + constant_head) constants)
    (omega (arith, length-drop (word_at asked j * constant_size + constant_head) constants, pool.listed j h, pool.sized j h))

module _ (code labels events constants asked : List ℕ) (arch len count n m : ℕ) (ready : Ready code labels events constants asked arch len count n m)
    (us : List Use) (rs : List Ref) where
  abbrev p : Pooled
  p = laid_pooled arch len (take len code) (entries (word_at labels) count) (entries (event_at events) n) us rs constants asked m

  -- the pooled code ends where the pool does
  pub pooled_length : length p.code ≡ pool_start len constants asked m
  pooled_length =
      length-append (take len code) (pool_bytes arch len constants asked m)
      ∙ rw (length-take-le len code ready.bytes.room) (length_pool_bytes arch len constants asked m)

  label_lies : (l : ℕ) → get_or (entries (word_at labels) count) l none ≢ none → Lies p (get_or (entries (word_at labels) count) l none)
  label_lies l bound =
      ⊎_elim
      (λ (lt : l < count).
      let e = get_d_entries (word_at labels) count l none lt in
      rw (e, pooled_length) (offset_lies code labels events constants asked arch len count n m ready p.events refl (word_at labels l) (ready.landed l lt) (λ z. bound (e ∙ z))))
      (λ ge. absurd (bound (get_or-eq_default (entries (word_at labels) count) none (omega (arith, length_entries (word_at labels) count)))))
      (lt_or_ge l count)

  constant_lies : (i : ℕ) → i < length (entries (pool_placed len constants asked) m) → Lies p (get_or (entries (pool_placed len constants asked) m) i (record { offset = 0; bytes = [] })).offset
  constant_lies i h =
      let lt : i < m = omega (arith, length_entries (pool_placed len constants asked) m) in
      rw (get_d_entries (pool_placed len constants asked) m i (record { offset = 0; bytes = [] }) lt, pooled_length)
      (offset_lies code labels events constants asked arch len count n m ready p.events refl (pool_offset len constants asked i) (inr (i, lt, refl))
      (λ e. omega (arith, ready.bytes.limit, ready.pool.few, pool_offset_bound len constants asked m ready.pool i lt)))

  -- A pooled recording whose refs are not refused with 17 is in good order.
  pub well_formed : every (ref_clear p) rs ≡ true → WellFormed p
  well_formed clear =
      record {
        ordered = rw pooled_length (events_ordered code labels events constants asked arch len count n m ready p.events refl);
        landed = label_lies;
        fields = refs_lie p rs (record { offset = 0; label = 0; code = 0; addend = 0 }) (λ i h. apart_lies p _ _ (ref_apart p _ (every_at (ref_clear p) rs (record { offset = 0; label = 0; code = 0; addend = 0 }) clear i h)));
        constants = pool_lies p (entries (pool_placed len constants asked) m) (record { offset = 0; bytes = [] }) constant_lies;
      }

  -- A constant stands apart from the events.
  pub pool_apart : (j : ℕ) → j < m → Apart p (pool_offset len constants asked j) (length (bytes_at constants asked j))
  pool_apart j h =
      rw (constant_size_lem constants asked m ready.pool j h, pooled_length) (
        omega (arith, pool_start_suc len constants asked j, pool_start_grows len constants asked (suc j) m h),
        λ i k. constant_beside code labels events constants asked arch len count n m ready p.events refl j h i k,
      )
