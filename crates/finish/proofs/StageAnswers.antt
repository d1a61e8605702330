-- What each stage of finish answers and leaves, over plain variables: the program's proofs cite these.
use mathlib.Core.Path.{◌≡◌, refl, sym, ap, ◌∙◌}
use mathlib.Core.Logic.{◌≢◌, ⊎_elim}
use mathlib.Core.Bool.{Bool, true, false, not}
use mathlib.Core.List.{List, [], ◌∷◌, map}
use Prim.Native.Nat.{ℕ, zero, suc, ◌+◌, ◌-◌, ◌*◌, ◌≤◌, ◌<◌}
use native.Mathlib.Omega.{arith}
use borrow.Author.Tests.{ltb-false, not-false}
use lib.Dec.{ltb}
use lib.ListN.{length, take, drop, replicate}
use Rattle.std.specs.Prelude.{Result, Err}
use Rattle.refusals.specs.Numbers as refusals
use Rattle.refusals.specs.declared.Refusal.{Refusal}
use Rattle.refusals.specs.Answers.{number_of}
use Rattle.seqs.specs.Over.{over}
use Rattle.seqs.specs.Pick.{first, or_else}
use Rattle.seqs.proofs.Numbers.{eq_or_ne}
use Rattle.seqs.proofs.Overwrites.{length_over}
use Rattle.seqs.proofs.Picking.{no_eq, yes_eq, passed, neither}
use Rattle.seqs.proofs.Scans.{each_none}
use Rattle.words.specs.Words.{word_at, over_words}
use Rattle.fields.specs.Words64.{plus, minus, sign_extend}
use Rattle.fields.specs.Kinds.{Decoded, Use, Unsupported, Unknown, decoded}
use Rattle.relax.specs.declared.LayoutEvent.{LayoutEvent}
use Rattle.relax.specs.declared.Segment.{Segment}
use Rattle.relax.specs.Events.{event_at}
use Rattle.buffer.specs.State.{none}
use Rattle.buffer.specs.Tables.{most_entries, use_words, ref_words}
use Rattle.recording.specs.View as tables
use Rattle.recording.proofs.Views.{get_d_entries, every_entries}
use Rattle.fresh.specs.Pooled.{Pooled}
use Rattle.fresh.specs.Fresh.{Choice, moved}
use Rattle.fresh.specs.Rounds.{Settled, settled}
use Rattle.fresh.specs.Fill.{assembled}
use Rattle.fresh.specs.Segments.{segments, map_offset, segments_of}
use Rattle.fresh.specs.Order.{WellFormed}
use Rattle.fresh.proofs.Entries.{apart_lies}
use Rattle.fresh.proofs.Fill.{length_assembled, labels_same}
use Rattle.fresh.proofs.Segments.{placed_runs, moved_map, target_map}
use Rattle.fresh.proofs.Within.{mapped_le}
use Rattle.pool.specs.steps.Pool.{pool_start}
use Rattle.pool.proofs.Turns.{from_pool_start, pool_start_suc, pool_start_grows}
use Rattle.fields.specs.Kinds.{size_of}
use Rattle.checks.specs.steps.Fields.{refs_clear, why_unreached, why_uses}
use Rattle.emit.specs.steps.Emit as emit
use Rattle.emit.specs.steps.Emit.{mapped_words}
use Rattle.layout.specs.declared.Summary.{Summary}
use Rattle.layout.specs.steps.Layout.{all_events, finished_length, relaxed_by, Relaxed, Rising}
use Rattle.layout.proofs.Pooling.{length_all}
use Rattle.layout.proofs.Settled.{relaxed_entries, relaxed_settled, finished_placed, all_short_lem}
use Rattle.seqs.specs.Every.{every}
use Rattle.finish.specs.Refusals.{reaches_by, ref_reaches, why_not_laid, why_not_written, why_not_in_place}
use Rattle.finish.specs.Finish.{Outcome, outcome_of, refused_with, relocated, settled_segments, relaxed}
use Rattle.finish.specs.steps.Tables.{tables_pooled, laid_pooled}
use Rattle.finish.specs.steps.Ready.{Relaxable, Layable, code_written, end_of_runs, Writing, code_copied, Copying, Keepable, kept}
use Rattle.finish.proofs.ScansAgree.{refs_clear_lem, uses_refused}
use Rattle.finish.proofs.RelaxedRequires.{rising_all, within_size, ref_beside, clear_all, formed, table_all, writing, landed_small}
use Rattle.finish.proofs.MappedTables.{word_over, labels_mapped, relocs_mapped, map_entries}
use Rattle.finish.proofs.PooledInOrder.{pooled_length, jump_label}
use Rattle.finish.proofs.FinishedCode.{code_written_lem, kept_length, code_kept}

-- a stage that hands a refusal on
pub handed_on : {placed : Result Summary Refusal} (why : Refusal) → placed ≡ Err why → outcome_of placed ≡ refused_with (number_of why)
handed_on why e = ap outcome_of e

-- 18 and 23, where what was found of the refs is said otherwise
pub why_by : (len output : ℕ) {reach said : Bool} {why : ℕ} → reach ≡ said
    → why ≡ first ((not reach, refusals.ref_out_of_reach) ∷ (ltb output len, refusals.output_too_small) ∷ [])
    → why ≡ first ((not said, refusals.ref_out_of_reach) ∷ (ltb output len, refusals.output_too_small) ∷ [])
why_by len output e h = h ∙ ap (λ (t : Bool). first ((not t, refusals.ref_out_of_reach) ∷ (ltb output len, refusals.output_too_small) ∷ [])) e

-- no use is refused where the first refusal is none
each_reached : (uses labels : List ℕ) (len n : ℕ) → why_uses uses labels len n ≡ 0 → (i : ℕ) → i < n → why_unreached uses labels len i ≡ 0
unfolding why_uses
each_reached uses labels len n h i k = each_none (why_unreached uses labels len) n h i k

field_within : (uses labels : List ℕ) (len i : ℕ) → why_unreached uses labels len i ≡ 0 → word_at uses (i * use_words) + size_of (decoded (word_at uses (i * use_words + 2))) ≤ len
unfolding why_unreached
field_within uses labels len i h = ltb-false _ _ (passed _ refusals.use_past_end _ (λ e. omega arith) h).0

module _ (code labels uses constants asked : List ℕ) (arch len count u m : ℕ) (es : List LayoutEvent) (rs : List tables.Ref)
    (k : Keepable code labels uses constants asked len count u m) (output : List ℕ) (end why : ℕ) (ends : end ≡ pool_start len constants asked m)
    (answer : why ≡ or_else (why_uses uses labels end u) (first ((ltb (length output) end, refusals.output_too_small) ∷ []))) where
  abbrev q : Pooled
  q = tables_pooled arch len (take len code) (tables.entries (word_at labels) count) es (tables.entries (tables.use_at uses) u) rs constants asked m

  q_length : length q.code ≡ end
  q_length = kept_length code labels uses constants asked arch len count u m es rs k ∙ sym ends

  why_is : why_not_in_place q (length output) ≡ why
  unfolding why_not_in_place
  why_is = rw (uses_refused q uses labels count end u refl q_length k.known, q_length) (sym answer)

  pub kept_refused : (r : Outcome) → why ≢ 0 → r ≡ refused_with why → (r, output) ≡ kept q output
  unfolding kept
  kept_refused r ne e = rw (e, why_is) (sym (no_eq why 0 _ _ ne))

  module _ (none·wrong : why ≡ 0) where
    passed·all : (why_uses uses labels end u ≡ 0) × (first ((ltb (length output) end, refusals.output_too_small) ∷ []) ≡ 0)
    passed·all = neither (why_uses uses labels end u) (first ((ltb (length output) end, refusals.output_too_small) ∷ [])) (sym answer ∙ none·wrong)

    fits : end ≤ length output
    fits = ltb-false (length output) end (passed (ltb (length output) end) refusals.output_too_small 0 (λ e. omega arith) passed·all.1).0

    within : (i : ℕ) → i < u → word_at uses (i * use_words) + size_of (decoded (word_at uses (i * use_words + 2))) ≤ end
    within i h = field_within uses labels end i (each_reached uses labels end u passed·all.0 i h)

    -- what the code is copied from
    pub copying : Copying output code labels uses constants asked len u m
    copying = record {
      coded = k.bytes.room;
      small = k.bytes.limit;
      pool = k.pool;
      pooled = omega (arith, ends, fits);
      room = omega (arith, ends, fits, from_pool_start len constants asked m);
      used = record {
        each = λ i h. record {
          entry = omega (arith, k.used_room);
          known = omega (arith, k.known i h, k.room);
          within = within_size (decoded (word_at uses (i * use_words + 2))) (word_at uses (i * use_words)) (length output) (omega (arith, within i h, fits));
        };
      };
      named = k.named;
      written = record {
        within = λ j h.
            omega (arith, k.stands j h, pool_start_suc len constants asked j, pool_start_grows len constants asked (suc j) m h, ends, fits);
      };
    }

    pub kept_done : (r : Outcome) (left : List ℕ) → r ≡ record { refusal = 0; len = end; layouts = 0 }
        → left ≡ code_copied output code labels uses constants asked arch len u m → (r, left) ≡ kept q output
    unfolding kept
    kept_done r left er el =
        rw (er, el, why_is, code_kept code labels uses constants asked arch len count u m es rs k output _ _ refl refl (omega (arith, ends, fits)) (λ i h. omega (arith, within i h, ends)), ← q_length)
        (sym (yes_eq why 0 _ _ none·wrong))

-- With a jump. Whether a field reaches, said of the distance.
field_reaches_lem : (d : Decoded) (offset label addend : ℕ) → reaches_by d (minus (plus label (sign_extend 32 addend)) offset) ≡ emit.field_reaches d offset label addend
field_reaches_lem (Use k) offset label addend = refl
field_reaches_lem Unsupported offset label addend = refl
field_reaches_lem Unknown offset label addend = refl

-- what nothing refused before the layout says
module _ {code labels events refs constants asked relocs output : List ℕ} {cap arch len count n m f l : ℕ}
    (x : Layable code labels events refs constants asked relocs output cap arch len count n m f l) where
  early·passed : (ltb cap (n + m) ≡ false) × (first ((not (refs_clear refs f events n len constants asked m), refusals.ref_overlaps) ∷ []) ≡ 0)
  early·passed = passed (ltb cap (n + m)) refusals.too_few_segments _ (λ e. omega arith) (sym x.unrefused)

  pub room : n + m ≤ cap
  room = ltb-false cap (n + m) early·passed.0

  pub few : n + m ≤ most_entries
  few = omega (arith, room, x.relaxable.segments_limit)

  pub clear : refs_clear refs f events n len constants asked m ≡ true
  clear = not-false _ (passed (not (refs_clear refs f events n len constants asked m)) refusals.ref_overlaps 0 (λ e. omega arith) early·passed.1).0

pub segments_are : {es : List LayoutEvent} {labels : ℕ → ℕ} {from layouts len : ℕ} {ss ss' : List Segment} {initial c : Choice}
    → Relaxed es labels initial from ss ss' c layouts len → ss' ≡ over ss 0 (segments 0 0 es c)
segments_are {es} {ss} laid = laid.table ∙ ap (λ (d : Choice). over ss 0 (segments 0 0 es d)) (sym laid.choice)

-- the segments that the rounds leave rise
pub segments_rise : {code labels events refs constants asked relocs output : List ℕ} {arch len count n m f l layouts len' total : ℕ} {at : ℕ → ℕ} {ss ss' : List Segment} {initial c : Choice}
    → Layable code labels events refs constants asked relocs output (length ss) arch len count n m f l
    → Relaxed (all_events events n len constants asked m) at initial total ss ss' c layouts len' → Rising ss' (n + m)
segments_rise x laid = rising_all x.relaxable.ready _ _ _ (segments_are laid) (few x) (room x)

module _ {code labels events refs constants asked relocs output : List ℕ} {arch len count n m f l : ℕ} (ss : List Segment)
    (x : Relaxable code labels events refs constants asked relocs output (length ss) arch len count n m f l) (us : List tables.Use) where
  abbrev p : Pooled
  p = laid_pooled arch len (take len code) (tables.entries (word_at labels) count) (tables.entries (event_at events) n) us (tables.entries (tables.ref_at refs) f) constants asked m

  p_length : length p.code ≡ pool_start len constants asked m
  p_length = pooled_length code labels events constants asked arch len count n m x.ready us (tables.entries (tables.ref_at refs) f)

  early_is : why_not_laid p (length ss) ≡ first ((ltb (length ss) (n + m), refusals.too_few_segments) ∷ (not (refs_clear refs f events n len constants asked m), refusals.ref_overlaps) ∷ [])
  unfolding why_not_laid
  early_is = rw (length_all events n len constants asked m, refs_clear_lem p refs events constants asked f n m len refl refl p_length)

  module _ {early : ℕ} (early·answer : early ≡ first ((ltb (length ss) (n + m), refusals.too_few_segments) ∷ (not (refs_clear refs f events n len constants asked m), refusals.ref_overlaps) ∷ [])) where
    pub refused_early : {r : Outcome} → early ≢ 0 → r ≡ refused_with early
        → (r, (labels, (relocs, (ss, output)))) ≡ relaxed p l labels relocs ss output
    unfolding relaxed
    refused_early ne e = rw (e, early_is ∙ sym early·answer) (sym (no_eq early 0 _ _ ne))

    module _ (none·early : early ≡ 0) where
      y : Layable code labels events refs constants asked relocs output (length ss) arch len count n m f l
      y = record { relaxable = x; unrefused = sym none·early ∙ early·answer }

      wf : WellFormed p
      wf = formed x.ready x.referred (clear y) us

      module _ {ss' : List Segment} {initial c : Choice} {layouts len' : ℕ} (short : initial ≡ replicate (n + m) false)
          (laid : Relaxed (all_events events n len constants asked m) (word_at labels) initial (pool_start len constants asked m) ss ss' c layouts len') where
        settled_is : relaxed_by (all_events events n len constants asked m) (word_at labels) initial ≡ settled p
        settled_is =
            ap (relaxed_by (all_events events n len constants asked m) (word_at labels))
            (short ∙ ap (λ (k : ℕ). replicate k false) (sym (length_all events n len constants asked m)) ∙ all_short_lem (all_events events n len constants asked m))
            ∙ relaxed_entries events n len constants asked m labels count (λ i b h r. jump_label events n count len arch x.ready.recorded i b h r)
            ∙ relaxed_settled p wf

        choice_is : c ≡ (settled p).choice
        choice_is = laid.choice ∙ ap (λ (s : Settled). s.choice) settled_is

        len_is : len' ≡ length (assembled p c)
        len_is =
            laid.finished
            ∙ ap (λ (d : Choice). finished_length (all_events events n len constants asked m) d (pool_start len constants asked m)) (sym laid.choice)
            ∙ ap (λ (t : ℕ). finished_length (all_events events n len constants asked m) c t) (sym p_length)
            ∙ finished_placed p c wf
            ∙ sym (length_assembled p c)

        table_is : take (n + m) ss' ≡ segments_of p c
        table_is = table_all x.ready ss ss' c (segments_are laid) (few y) (room y)

        -- 18, as the segments say it
        reach_is : every (ref_reaches p c) p.refs ≡ emit.refs_reach refs labels ss' (n + m) f
        unfolding ref_reaches emit.refs_reach
        reach_is =
            every_entries (ref_reaches p c) (tables.ref_at refs) (λ (i : ℕ). emit.ref_reaches refs labels ss' (n + m) i) f
            (λ i h.
            rw (
              target_map p c wf (word_at refs (i * ref_words + 1)),
              get_d_entries (word_at labels) count (word_at refs (i * ref_words + 1)) none (x.referred.entry i h).label,
              moved_map p c wf (word_at refs (i * ref_words)) (apart_lies p (word_at refs (i * ref_words)) _ (ref_beside x.ready x.referred (clear y) us i h)),
              table_is,
            )
            (field_reaches_lem (decoded (word_at refs (i * ref_words + 2))) _ _ _))

        late_is : why_not_written p (length output) ≡ first ((not (emit.refs_reach refs labels ss' (n + m) f), refusals.ref_out_of_reach) ∷ (ltb (length output) len', refusals.output_too_small) ∷ [])
        unfolding why_not_written
        late_is = rw (← choice_is, reach_is, ← len_is)

        segments_settled : ss' ≡ settled_segments p ss
        segments_settled = rw (← choice_is) (segments_are laid)

        module _ {late : ℕ} (late·answer : late ≡ first ((not (emit.refs_reach refs labels ss' (n + m) f), refusals.ref_out_of_reach) ∷ (ltb (length output) len', refusals.output_too_small) ∷ [])) where
          pub refused_late : {r : Outcome} → late ≢ 0 → r ≡ refused_with late
              → (r, (labels, (relocs, (ss', output)))) ≡ relaxed p l labels relocs ss output
          unfolding relaxed
          refused_late ne e =
              rw (e, segments_settled, early_is ∙ sym early·answer, late_is ∙ sym late·answer)
              (sym (yes_eq early 0 _ _ none·early ∙ no_eq late 0 _ _ ne))

          module _ (none·late : late ≡ 0) (chosen : length c ≡ n + m) {final : List ℕ}
              (final-is : final ≡ mapped_words (map_offset (take (n + m) ss')) labels 1 count) where
            code_fits : length (assembled p c) ≤ length output
            code_fits =
                rw (← len_is)
                (ltb-false (length output) len'
                (passed (ltb (length output) len') refusals.output_too_small 0 (λ e. omega arith)
                (passed (not (emit.refs_reach refs labels ss' (n + m) f)) refusals.ref_out_of_reach _ (λ e. omega arith) (sym late·answer ∙ none·late)).1).0)

            label_small : (i : ℕ) → i < count → map_offset (take (n + m) ss') (word_at labels i) < 4294967296
            unfolding map_offset
            label_small i h =
                rw table_is
                (⊎_elim
                (λ (e : word_at labels i ≡ none). rw e (omega arith))
                (λ (ne : word_at labels i ≢ none).
                let same = get_d_entries (word_at labels) count i none h in
                omega (
                  arith,
                  mapped_le p c wf (word_at labels i) (omega (arith, landed_small code labels events constants asked arch len count n m x.ready i h ne)) (rw same at (wf.landed i (λ z. ne (sym same ∙ z)))),
                  ap length (placed_runs p c wf),
                  length_assembled p c,
                  code_fits,
                  x.output_limit,
                ))
                (eq_or_ne (word_at labels i) none))

            label_moved : (i : ℕ) → i < count → word_at final i ≡ map_offset (take (n + m) ss') (word_at labels i)
            label_moved i h =
                rw (final-is, labels_mapped (map_offset (take (n + m) ss')) labels count)
                (word_over (λ (k : ℕ). map_offset (take (n + m) ss') (word_at labels k)) labels count i h x.ready.room (label_small i h))

            final_long : length final ≡ length labels
            final_long = rw (final-is, labels_mapped (map_offset (take (n + m) ss')) labels count) (length_over labels 0 _)

            -- what the code is written from
            pub writing_is : Writing output code final events refs constants asked c ss' arch len n m f (end_of_runs arch code events c len n)
            writing_is =
                writing x.ready x.referred (clear y) ss ss' c (segments_are laid) (few y) (room y) chosen final output label_moved final_long
                (omega (arith, ap (λ (d : Choice). finished_length (all_events events n len constants asked m) d (pool_start len constants asked m)) laid.choice, laid.finished, len_is, code_fits))
                x.output_limit

            final_labels : final ≡ over_words labels (map (moved p c) p.labels)
            final_labels =
                final-is
                ∙ labels_mapped (map_offset (take (n + m) ss')) labels count
                ∙ ap (over_words labels)
                (sym (map_entries (map_offset (take (n + m) ss')) (word_at labels) count)
                ∙ ap (λ (ss : List Segment). map (map_offset ss) p.labels) table_is
                ∙ labels_same p c wf)

            code_is : code_written arch output code final events refs constants asked c ss' len n m f ≡ over output 0 (assembled p c)
            code_is =
                code_written_lem code labels final events refs constants asked arch len count n m f us c ss'
                (record {
                  ready = x.ready;
                  clear = clear_all x.ready x.referred (clear y) us;
                  laid = table_is;
                  known = λ i h. (x.referred.entry i h).label;
                  named = λ i b h r. jump_label events n count len arch x.ready.recorded i b h r;
                  moved = label_moved;
                })
                output _ _ _ refl refl refl code_fits

            pub done : {r : Outcome} {relocs' left : List ℕ} → r ≡ record { refusal = 0; len = len'; layouts = layouts }
                → relocs' ≡ mapped_words (map_offset (take (n + m) ss')) relocs 6 l
                → left ≡ code_written arch output code final events refs constants asked c ss' len n m f
                → (r, (final, (relocs', (ss', left)))) ≡ relaxed p l labels relocs ss output
            unfolding relaxed
            done er em el =
                rw (
                  er,
                  el ∙ code_is,
                  final_labels,
                  em ∙ relocs_mapped (map_offset (take (n + m) ss')) relocs l ∙ ap (λ (ss : List Segment). relocated (map_offset ss) relocs l) table_is,
                  len_is,
                  laid.rounds ∙ ap (λ (s : Settled). s.rounds) settled_is,
                  segments_settled,
                  choice_is,
                  early_is ∙ sym early·answer,
                  late_is ∙ sym late·answer,
                )
                (sym (yes_eq early 0 _ _ none·early ∙ yes_eq late 0 _ _ none·late))

-- the marks before the rounds: no jump is long
take_replicate : (k n : ℕ) (b : Bool) → k ≤ n → take k (replicate n b) ≡ replicate k b
take_replicate zero n b h = refl
take_replicate (suc k) zero b h = absurd (omega arith)
take_replicate (suc k) (suc n) b h = ap (λ l. b ∷ l) (take_replicate k n b (omega arith))

pub marks_short : (k n : ℕ) → k ≤ n → take (k - 0) (drop 0 (replicate n false)) ≡ replicate k false
marks_short k n h = let e : k - 0 ≡ k = omega arith in rw e (take_replicate k n false h)
