-- What is claimed of pooled constants: what a finish that answers 0 leaves meets it.
use mathlib.Core.Path.{◌≡◌, sym, ap, ◌∙◌, subst}
use mathlib.Core.List.{List, [], map}
use Prim.Native.Nat.{ℕ, suc, ◌+◌, ◌%◌, ◌≤◌, ◌<◌}
use native.Mathlib.Nat.{add-mod, zero-mod}
use native.Mathlib.Omega.{arith}
use lib.ListN.{length, get_or}
use Rattle.words.specs.Words.{word_at}
use Rattle.encoder.proofs.Padding.{padding_aligns}
use Rattle.relax.specs.declared.Segment.{Segment}
use Rattle.buffer.specs.declared.CodeBuffer.{CodeBuffer}
use Rattle.buffer.specs.State.{none}
use Rattle.buffer.specs.Tables.{most_entries}
use Rattle.recording.specs.Calls.{Recording}
use Rattle.recording.specs.Sound.{Sound}
use Rattle.recording.specs.View.{entries, view}
use Rattle.recording.proofs.Views.{length_entries, get_d_entries}
use Rattle.fresh.specs.Pooled.{constant_alignment, Placed, Pooled, asked_constant, pooled, code_alignment}
use Rattle.fresh.specs.Forms.{moves}
use Rattle.fresh.specs.Fresh.{Choice, starts, walk, placed, moved}
use Rattle.fresh.specs.Rounds.{settled}
use Rattle.fresh.specs.Fill.{fill_refs, fill_jumps, fill_uses, fill_pool, fill, assembled, in_place}
use Rattle.fresh.proofs.Tests.{split}
use Rattle.fresh.proofs.Entries.{apart_lies}
use Rattle.fresh.proofs.Constants.{alignment_range, code_alignment_known, code_alignment_multiple, code_alignment_least}
use Rattle.fresh.proofs.AlignedEnds.{multiple_of, end_on_multiple}
use Rattle.fresh.proofs.Within.{moved_within}
use Rattle.fresh.proofs.Apart.{moved_apart}
use Rattle.fresh.proofs.Fill.{length_fill_refs, length_fill_jumps, length_fill_uses}
use Rattle.pool.specs.steps.Pool.{size_at, label_at, pool_start, pool_bound}
use Rattle.pool.proofs.Turns.{pool_start_suc, pool_start_grows}
use Rattle.finish.specs.Finish.{finish}
use Rattle.finish.specs.steps.Tables.{pool_placed}
use Rattle.finish.proofs.SoundRecording.{tied, pooled_is, pooled_ends, ready}
use Rattle.finish.proofs.MappedTables.{map_entries}
use Rattle.demands.specs.Demand2.{finished_code, constant_of}
use Rattle.demands.specs.Constants.{alignment_of, offset_of, Constants}
use Rattle.demands.proofs.Kept.{constant_written}
use Rattle.demands.proofs.Relaxing.{Fitting}
use Rattle.demands.proofs.Answers.{finish_answered}
use Rattle.demands.proofs.Discharged.{keeps, fitting}
use Rattle.demands.proofs.Offsets.{offsets_moved, offsets_kept}

-- sums of multiples
sum_multiple : (x y m : ℕ) → x % m ≡ 0 → y % m ≡ 0 → (x + y) % m ≡ 0
sum_multiple x y m e f = add-mod x y m ∙ rw (e, f) (zero-mod m)

-- what the definitions have for a constant that is not there
abbrev nowhere : Placed
nowhere = record { offset = 0; bytes = [] }

module _ (r : Recording) (s : Sound r) (few : r.buffer.asked ≤ most_entries) where
  abbrev b : CodeBuffer
  b = r.buffer

  abbrev p : Pooled
  p = pooled b.arch (view r)

  abbrev bound : List ℕ
  bound = pool_bound b.code r.labels r.constants r.asked b.asked

  pool_is : p.pool ≡ entries (pool_placed b.code r.constants r.asked) b.asked
  pool_is = ap (λ (x : Pooled). x.pool) (pooled_is r s few)

  labels_are : p.labels ≡ entries (word_at bound) b.labels
  labels_are = ap (λ (x : Pooled). x.labels) (pooled_is r s few)

  -- as many as were asked for
  pool_count : length p.pool ≡ length (view r).asked
  pool_count =
      ap length pool_is ∙ length_entries (pool_placed b.code r.constants r.asked) b.asked ∙ sym (length_entries (word_at r.asked) b.asked)

  below : (j : ℕ) → j < length p.pool → j < b.asked
  below j h = omega (arith, pool_count, length_entries (word_at r.asked) b.asked)

  placed_as_lem : (j : ℕ) → j < length p.pool → constant_of p j ≡ pool_placed b.code r.constants r.asked j
  placed_as_lem j h =
      ap (λ (ks : List Placed). get_or ks j nowhere) pool_is
      ∙ get_d_entries (pool_placed b.code r.constants r.asked) b.asked j nowhere (below j h)

  -- the constant asked for as number j is number j of the pool
  same_bytes : (j : ℕ) → j < length p.pool → (asked_constant (view r) j).bytes ≡ (constant_of p j).bytes
  same_bytes j h = rw ((tied r s few).constant j (below j h), placed_as_lem j h)

  -- a pooled constant lies before the next, and before the code's end
  behind : (i j : ℕ) → i < j → j < length p.pool → (constant_of p i).offset + length (constant_of p i).bytes ≤ (constant_of p j).offset
  behind i j lt h =
      rw (placed_as_lem i (omega arith), placed_as_lem j h, (tied r s few).sized i (below i (omega arith)))
      (omega (
        arith,
        pool_start_suc b.code r.constants r.asked i,
        pool_start_grows b.code r.constants r.asked (suc i) j (omega arith),
      ))

  inside : (j : ℕ) → j < length p.pool → (constant_of p j).offset + length (constant_of p j).bytes ≤ length p.code
  inside j h =
      rw (placed_as_lem j h, (tied r s few).sized j (below j h))
      (omega (
        arith,
        pooled_ends r s few,
        pool_start_suc b.code r.constants r.asked j,
        pool_start_grows b.code r.constants r.asked (suc j) b.asked (below j h),
      ))

  -- it is pooled on a multiple of its alignment
  pooled_aligned : (j : ℕ) → j < length p.pool → (constant_of p j).offset % constant_alignment (length (constant_of p j).bytes) ≡ 0
  pooled_aligned j h =
      rw (placed_as_lem j h, (tied r s few).sized j (below j h))
      (padding_aligns (pool_start b.code r.constants r.asked j) (constant_alignment (size_at r.constants r.asked j))
      (omega (arith, alignment_range (size_at r.constants r.asked j))))

  -- A pool is filled into l, with recorded offsets taken to new ones by `at`.
  record Filling (at : ℕ → ℕ) (l : List ℕ) : Type 0 where
    room : (j : ℕ) → j < length p.pool → at (constant_of p j).offset + length (constant_of p j).bytes ≤ length l
    order : (i j : ℕ) → i < j → j < length p.pool → 0 < length (constant_of p i).bytes
        → at (constant_of p i).offset + length (constant_of p i).bytes ≤ at (constant_of p j).offset
    aligned : (j : ℕ) → j < length p.pool → at (constant_of p j).offset % constant_alignment (length (constant_of p j).bytes) ≡ 0

  module _ (at : ℕ → ℕ) (l labels : List ℕ) (f : Filling at l) (e : labels ≡ entries (λ (i : ℕ). at (word_at bound i)) b.labels) where
    -- a constant's label has the constant's offset
    label_at_lem : (j : ℕ) → j < length p.pool → offset_of (view r) labels j ≡ at (constant_of p j).offset
    label_at_lem j h =
        rw ((tied r s few).constant j (below j h), e, placed_as_lem j h)
        (get_d_entries (λ (i : ℕ). at (word_at bound i)) b.labels (label_at r.constants r.asked j) none ((ready r s few).owned j (below j h))
        ∙ ap at ((ready r s few).stands j (below j h)))

    filled : Constants (view r) (fill_pool at p.pool l) labels (code_alignment p.pool)
    filled =
        let own : (j : ℕ) → j < length (view r).asked → j < length p.pool = λ j h. omega (arith, pool_count) in
        let own_alignment : (j : ℕ) (h : j < length p.pool) → alignment_of (view r) j ≡ constant_alignment (length (constant_of p j).bytes) =
        λ j h. ap (λ (bytes : List ℕ). constant_alignment (length bytes)) (same_bytes j h) in
        let stands_on : (j : ℕ) → j < length (view r).asked → offset_of (view r) labels j % alignment_of (view r) j ≡ 0 =
        λ j h. rw (label_at_lem j (own j h), own_alignment j (own j h)) (f.aligned j (own j h)) in
        let divides : (j : ℕ) → j < length (view r).asked → code_alignment p.pool % alignment_of (view r) j ≡ 0 =
        λ j h. rw (own_alignment j (own j h)) (code_alignment_multiple nowhere p.pool j (own j h)) in
        record {
          stands = λ j h.
              rw (label_at_lem j (own j h), same_bytes j (own j h))
              (constant_written at p.pool l nowhere j (own j h) (f.room j (own j h))
              (λ i lt k x from to since until. omega (arith, f.order j i lt k (omega arith))));
          aligned = stands_on;
          known = code_alignment_known p.pool;
          multiple = divides;
          least = λ m h each.
              code_alignment_least nowhere p.pool m h
              (λ j k. rw (← own_alignment j k) (each j (omega (arith, pool_count))));
          loaded = λ base j h k. sum_multiple base (offset_of (view r) labels j) (alignment_of (view r) j) (multiple_of base (code_alignment p.pool) (alignment_of (view r) j) h (divides j k)) (stands_on j k);
        }

  -- Nothing moves.
  in_place_filling : (l : List ℕ) → length l ≡ length p.code → Filling (λ (offset : ℕ). offset) l
  in_place_filling l same =
      record {
        room = λ j h. omega (arith, inside j h);
        order = λ i j lt h some. behind i j lt h;
        aligned = pooled_aligned;
      }

  -- The walk moves what is recorded.
  moved_filling : (c : Choice) → Fitting p c → (l : List ℕ) → length l ≡ length (placed p c) → Filling (moved p c) l
  moved_filling c fits l same =
      record {
        room = λ j h.
            omega (arith, moved_within p c fits.formed (constant_of p j).offset (length (constant_of p j).bytes) (omega (arith, inside j h, fits.recorded)) (fits.pool_apart j h));
        order = λ i j lt h some.
            moved_apart p c fits.formed (constant_of p i).offset (length (constant_of p i).bytes) (constant_of p j).offset (fits.pool_apart i (omega arith)) some
            (behind i j lt h) (omega (arith, inside j h)) (omega (arith, inside j h, fits.recorded));
        aligned = λ j h.
            end_on_multiple p c fits.formed (constant_alignment (length (constant_of p j).bytes)) (constant_of p j).offset (fits.pool_aligned j h)
            (λ e. omega (arith, inside j h, fits.recorded))
            (apart_lies p (constant_of p j).offset (length (constant_of p j).bytes) (fits.pool_apart j h));
      }

  constants_in_place : (labels : List ℕ) → labels ≡ p.labels → Constants (view r) (in_place p) labels (code_alignment p.pool)
  unfolding in_place
  constants_in_place labels e =
      let l = fill_uses p.labels p.uses p.code in
      filled (λ (offset : ℕ). offset) l labels (in_place_filling l (length_fill_uses p.labels p.uses p.code)) (e ∙ labels_are)

  constants_moved : (c : Choice) → Fitting p c → (labels : List ℕ) → labels ≡ map (moved p c) p.labels
      → Constants (view r) (assembled p c) labels (code_alignment p.pool)
  unfolding assembled fill
  constants_moved c fits labels e =
      let refs = fill_refs (moved p c) p.labels p.refs (placed p c) in
      let l = fill_jumps (λ (label : ℕ). moved p c (get_or p.labels label none)) p.events c (starts 0 (walk p) c) refs in
      filled (moved p c) l labels
      (moved_filling c fits l (length_fill_jumps _ p.events c (starts 0 (walk p) c) refs ∙ length_fill_refs (moved p c) p.labels p.refs (placed p c)))
      (e ∙ ap (map (moved p c)) labels_are ∙ map_entries (moved p c) (word_at bound) b.labels)

-- The finished bytes, the label table as it is left, and the alignment reported.
pub constants_hold : (r : Recording) (ss : List Segment) (output : List ℕ) → (finish r ss output).0.refusal ≡ 0
    → Constants (view r) (finished_code r ss output) (entries (word_at (finish r ss output).1.0) r.buffer.labels) (finish r ss output).0.code.alignment
constants_hold r ss output e =
    let p = pooled r.buffer.arch (view r) in
    let a = finish_answered r ss output e in
    let sound = a.fit.sound in
    let few = a.fit.few in
    let labels = entries (word_at (finish r ss output).1.0) r.buffer.labels in
    subst (Constants (view r) (finished_code r ss output) labels) (sym a.aligned)
    (split (moves p.events)
    (λ jump.
    let done = a.jumped jump in
    subst (λ (code : List ℕ). Constants (view r) code labels (code_alignment p.pool)) (sym done.is)
    (constants_moved r sound few (settled p).choice (fitting r sound few (keeps r sound few jump) a.fit a.bound done) labels (offsets_moved r ss output e jump)))
    (λ none·moves.
    let done = a.straight none·moves in
    subst (λ (code : List ℕ). Constants (view r) code labels (code_alignment p.pool)) (sym done.is)
    (constants_in_place r sound few labels (offsets_kept r ss output e none·moves))))
