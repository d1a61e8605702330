-- What the theorems on finished code ask of a pooled recording follows from what a finish that answers 0 has found of a sound one.
use mathlib.Core.Path.{◌≡◌, refl, sym, ap, ◌∙◌, subst}
use mathlib.Core.Logic.{◌≢◌, ⊎_elim}
use mathlib.Core.Bool.{Bool, true, false, not, ◌&&◌, cond}
use mathlib.Core.List.{List, [], ◌∷◌, ◌++◌}
use Prim.Native.Nat.{ℕ, zero, suc, ◌+◌, ◌*◌, ◌%◌, ◌≤◌, ◌<◌}
use native.Mathlib.Nat.{mod_self}
use native.Mathlib.Omega.{arith}
use lib.Dec.{eqb, ltb}
use lib.ListN.{length, get_or, take, length-append, get_or-eq_default}
use borrow.Author.Tests.{eqb-false, ltb-false, not-true}
use Rattle.refusals.specs.Numbers as refusals
use Rattle.seqs.proofs.Booleans.{both_true, true_is_not_false}
use Rattle.seqs.proofs.Numbers.{lt_or_ge, eq_or_ne}
use Rattle.seqs.proofs.Picking.{passed, neither}
use Rattle.words.specs.Words.{word_at}
use Rattle.fields.specs.declared.LabelUse.{LabelUse}
use Rattle.fields.specs.Kinds.{Decoded, Use, info, patch_size, is_arch, decoded}
use Rattle.fields.specs.Reach.{can_reach, reach_refusal}
use Rattle.relax.specs.declared.Alignment.{Alignment}
use Rattle.relax.specs.declared.LayoutEvent.{LayoutEvent}
use Rattle.relax.specs.declared.LayoutEvent.TheVariants.{Align}
use Rattle.relax.specs.declared.Segment.{Segment}
use Rattle.relax.specs.Events.{event_at, end_of, start_of, no_event}
use Rattle.buffer.specs.declared.CodeBuffer.{CodeBuffer}
use Rattle.buffer.specs.State.{none, keeps_events}
use Rattle.buffer.specs.Refusals.{foreign}
use Rattle.buffer.proofs.Keeping.{keeps_or_not, kept_x64}
use Rattle.buffer.specs.Tables.{most_entries, ref_words}
use Rattle.recording.specs.Calls.{Recording}
use Rattle.recording.specs.Sound.{Sound}
use Rattle.recording.specs.View as tables
use Rattle.recording.proofs.Views.{length_entries, get_d_entries}
use Rattle.fresh.specs.Pooled.{constant_alignment, Pooled, pooled}
use Rattle.fresh.specs.Rounds.{settled}
use Rattle.fresh.specs.Order.{Apart, WellFormed}
use Rattle.fresh.specs.steps.Runs.{Modest}
use Rattle.fresh.proofs.Constants.{alignment_cases, alignment_range}
use Rattle.fresh.proofs.AlignedEnds.{AlignsOn, EndsOn}
use Rattle.fresh.proofs.Least.{Bound}
use Rattle.fresh.proofs.Rounds.{rounds_settle, rounds_last, none_fits}
use Rattle.fresh.proofs.Fill.{length_assembled}
use Rattle.fresh.specs.Forms.{Branch, branches, role_of, moves}
use Rattle.pool.specs.steps.Pool.{size_at, pool_start, pool_offset, pool_event, pool_bound}
use Rattle.pool.proofs.Turns.{pool_start_suc, pool_start_grows}
use Rattle.fields.specs.Kinds.{size_of}
use Rattle.fields.specs.Reach.{reach_of}
use Rattle.layout.proofs.Pooling.{all_modest}
use Rattle.emit.specs.steps.Emit.{Writes}
use Rattle.finish.specs.steps.Tables.{pool_placed, laid_pooled}
use Rattle.finish.specs.steps.Ready.{Landed, Ready}
use Rattle.seqs.proofs.Every.{every_at}
use Rattle.seqs.specs.Every.{every}
use Rattle.finish.specs.Refusals.{is_bound, jump_bound, reloc_bound, all_bound, ref_clear, ref_reaches, use_refusal, uses_refusal}
use Rattle.finish.proofs.SoundRecording.{tied, offsets_small, pooled_is, ready}
use Rattle.finish.proofs.PooledInOrder.{AtTable, AtPool, event_at_lem, ref_apart, pool_apart, well_formed, recorded_writes}
use Rattle.finish.proofs.RelaxedRequires.{recorded}
use Rattle.demands.specs.Demand2 as demand
use Rattle.demands.specs.Demand2.{Bytes, use_of, ref_of, constant_of}
use Rattle.demands.proofs.Bytes.{bytes_take, bytes_pooled}
use Rattle.demands.proofs.Relaxing.{Fitting}
use Rattle.demands.proofs.Staying.{Reaching}
use Rattle.demands.proofs.Answers.{Fit, Assembled, Kept}
use Rattle.demands.proofs.Spending.{column_spends, pool_spends}

-- a kind that is not foreign to X64 is one of x86
x86_alone : (t : Bool) → not (is_arch t 2) ≡ false → t ≡ true
x86_alone true h = refl
x86_alone false h = absurd (true_is_not_false h)

x86_kind : (d : Decoded) (k : LabelUse) → d ≡ Use k → foreign d 2 ≡ false → (info k).x86 ≡ true
x86_kind d k is h = x86_alone (info k).x86 (rw is at h)

pub is_bound_lem : (labels : List ℕ) (l : ℕ) → is_bound labels l ≡ true → get_or labels l none ≢ none
is_bound_lem labels l h = eqb-false (get_or labels l none) none (not-true (eqb (get_or labels l none) none) h)

jump_bound_lem : (labels : List ℕ) (e : LayoutEvent) (b : Branch) → role_of e ≡ branches b → jump_bound labels e ≡ true → get_or labels b.label none ≢ none
jump_bound_lem labels e b r h = is_bound_lem labels b.label (rw r at h)

all_jumps_bound : (p : Pooled) (relocs : List tables.Relocation) → all_bound p relocs ≡ true → every (jump_bound p.labels) p.events ≡ true
unfolding all_bound
all_jumps_bound p relocs h =
    let refs = every (λ (f : tables.Ref). is_bound p.labels f.label) p.refs in
    let jumps = every (jump_bound p.labels) p.events in
    let relocs·bound = every (reloc_bound p.labels) relocs in
    let uses = every (λ (u : tables.Use). is_bound p.labels u.label) p.uses in
    (both_true refs jumps (both_true relocs·bound (refs && jumps) (both_true uses (relocs·bound && (refs && jumps)) h).1).1).1

-- every jump's label is bound
pub jumps_bound : (p : Pooled) (relocs : List tables.Relocation) → all_bound p relocs ≡ true → Bound p.labels p.events
jumps_bound p relocs h i b l r =
    jump_bound_lem p.labels (get_or p.events i no_event) b r (every_at (jump_bound p.labels) p.events no_event (all_jumps_bound p relocs h) i l)

use_refused : (p : Pooled) (us : List tables.Use) (z : tables.Use) → uses_refusal p us ≡ 0 → (i : ℕ) → i < length us → use_refusal p (get_or us i z) ≡ 0
unfolding uses_refusal
use_refused p [] z e i h = absurd (omega arith)
use_refused p (u ∷ us) z e zero h = (neither (use_refusal p u) (uses_refusal p us) e).0
use_refused p (u ∷ us) z e (suc i) h = use_refused p us z (neither (use_refusal p u) (uses_refusal p us) e).1 i (omega arith)

reach_true : (k : LabelUse) (offset label : ℕ) → reach_refusal k offset label ≡ 0 → can_reach k offset label ≡ true
unfolding reach_refusal
reach_true k offset label e = by (can_reach k offset label) (info k).branch (ltb label offset) e
  where
    by : (a b c : Bool) → ◌≡◌ {A = ℕ} (cond a 0 (cond b 20 (cond c 22 21))) 0 → a ≡ true
    by true b c h = refl
    by false true c h = absurd (omega arith)
    by false false true h = absurd (omega arith)
    by false false false h = absurd (omega arith)

-- what it says of a use that it is not refused
use_fits_lem : (p : Pooled) (u : tables.Use) (k : LabelUse) → decoded u.code ≡ Use k → use_refusal p u ≡ 0
    → (u.offset + patch_size k ≤ length p.code) × (can_reach k u.offset (get_or p.labels u.label none) ≡ true)
unfolding use_refusal
use_fits_lem p u k is e =
    let label = get_or p.labels u.label none in
    let both = passed (ltb (length p.code) (u.offset + size_of (decoded u.code))) refusals.use_past_end (reach_of (decoded u.code) u.offset label) (λ z. omega arith) e in (
      ltb-false (length p.code) (u.offset + patch_size k) (subst (λ (d : Decoded). ltb (length p.code) (u.offset + size_of d) ≡ false) is both.0),
      reach_true k u.offset label (subst (λ (d : Decoded). reach_of d u.offset label ≡ 0) is both.1),
    )

module _ (r : Recording) (s : Sound r) (few : r.buffer.asked ≤ most_entries) where
  abbrev b : CodeBuffer
  b = r.buffer

  abbrev p : Pooled
  p = pooled b.arch (tables.view r)

  abbrev bound : List ℕ
  bound = pool_bound b.code r.labels r.constants r.asked b.asked

  -- a label as recordings leave it, or one of the pool
  landed : (l : ℕ) → l < b.labels → Landed r.events b.events b.code r.constants r.asked b.asked (word_at bound l)
  landed = (ready r s few).landed

  -- every label's offset is a word
  pub label_word : (l : ℕ) → get_or p.labels l none < 4294967296
  label_word l =
      rw (pooled_is r s few)
      (⊎_elim
      (λ (h : l < b.labels).
      rw (get_d_entries (word_at bound) b.labels l none h)
      (⊎_elim
      (λ sound. ⊎_elim (λ (e : word_at bound l ≡ none). omega arith) (λ q. omega (arith, q.0, s.code.limit)) sound)
      (λ (e : (j : ℕ) × (j < b.asked) × (word_at bound l ≡ pool_offset b.code r.constants r.asked j)).
      omega (arith, e.2, offsets_small r s few e.0 e.1))
      (landed l h)))
      (λ (h : b.labels ≤ l).
      let past : length (tables.entries (word_at bound) b.labels) ≤ l = omega (arith, length_entries (word_at bound) b.labels) in
      omega (arith, get_or-eq_default (tables.entries (word_at bound) b.labels) none past))
      (lt_or_ge l b.labels))

  -- the labels of the pooled recording, as a table has them
  pub labelled : (at : ℕ → ℕ) × (p.labels ≡ tables.entries at b.labels)
  labelled = (word_at bound, ap (λ (x : Pooled). x.labels) (pooled_is r s few))

  ref_is : (i : ℕ) → i < length p.refs → (i < b.refs) × (ref_of p i ≡ tables.ref_at r.refs i)
  ref_is i h =
      let e : p.refs ≡ tables.entries (tables.ref_at r.refs) b.refs = ap (λ (q : Pooled). q.refs) (pooled_is r s few) in
      let l : i < b.refs = omega (arith, ap length e, length_entries (tables.ref_at r.refs) b.refs) in
      (l, ap (λ (x : List tables.Ref). get_or x i (record { offset = 0; label = 0; code = 0; addend = 0 })) e ∙ get_d_entries (tables.ref_at r.refs) b.refs i _ l)

  -- on X64 the events are those of the table, and those of the pool behind them
  abbrev all_events_lem : List LayoutEvent
  all_events_lem = tables.entries (event_at r.events) b.events ++ tables.entries (pool_event b.code r.constants r.asked) b.asked

  many_events : length all_events_lem ≡ b.events + b.asked
  many_events =
      length-append (tables.entries (event_at r.events) b.events) (tables.entries (pool_event b.code r.constants r.asked) b.asked)
      ∙ rw (length_entries (event_at r.events) b.events, length_entries (pool_event b.code r.constants r.asked) b.asked) refl

  events_are : p.events
      ≡ tables.entries (event_at r.events) b.events ++ cond (keeps_events b.arch) (tables.entries (pool_event b.code r.constants r.asked) b.asked) []
  events_are = ap (λ (x : Pooled). x.events) (pooled_is r s few)

  -- what keeps no events has none
  none_kept : keeps_events b.arch ≡ false → b.events ≡ 0
  none_kept off = ⊎_elim (λ (on : keeps_events b.arch ≡ true). absurd (true_is_not_false (sym on ∙ off))) (λ (z : b.events ≡ 0). z) s.events.tracked

  -- an alignment among the events
  spending : (i : ℕ) (a : Alignment) → i < length p.events → demand.event_of p i ≡ Align a → demand.SpendsAsRecorded a
  unfolding event_at
  spending i a h is =
      ⊎_elim
      (λ (on : keeps_events b.arch ≡ true).
      let e : p.events ≡ all_events_lem = events_are ∙ rw on refl in
      ⊎_elim
      (λ (t : AtTable r.events b.events i (get_or all_events_lem i no_event)).
      column_spends b.labels _ _ _ _ _ (s.events.entry i t.below).form a (sym t.is ∙ (ap (λ (es : List LayoutEvent). get_or es i no_event) (sym e) ∙ is)))
      (λ (t : AtPool r.constants r.asked b.code b.events b.asked i (get_or all_events_lem i no_event)).
      pool_spends b.code r.constants r.asked t.number a (sym t.is ∙ (ap (λ (es : List LayoutEvent). get_or es i no_event) (sym e) ∙ is)))
      (event_at_lem r.events r.constants r.asked b.code b.events b.asked i no_event (omega (arith, ap length e, many_events))))
      (λ (off : keeps_events b.arch ≡ false).
      let no : p.events ≡ [] = events_are ∙ rw (off, none_kept off) refl in
      absurd (omega (arith, ap length no)))
      (keeps_or_not b.arch)

  -- without a jump
  pub reaching : {ss : List Segment} {labels output code table : List ℕ} {len : ℕ} → Bytes r.code → Fit r ss output → Kept p labels output code table len → Reaching p
  reaching bytes fit kept =
      record {
        bytes = bytes_pooled b.arch (tables.view r) (length (tables.view r).asked) (bytes_take b.code r.code bytes);
        recorded = omega (arith, fit.small);
        labels = λ l. omega (arith, label_word l);
        within = λ i k h is. (use_fits_lem p (use_of p i) k is (use_refused p p.uses _ kept.none_refused i h)).0;
        reach = λ i k h is. (use_fits_lem p (use_of p i) k is (use_refused p p.uses _ kept.none_refused i h)).1;
        spends = spending;
      }

  -- a recording with a jump keeps events
  no_events : (t : Bool) (xs : List LayoutEvent) → b.events ≡ 0 → t ≡ false
      → moves (tables.entries (event_at r.events) b.events ++ cond t xs []) ≡ false
  unfolding moves
  no_events t xs none e = rw (none, e) refl

  pub keeps : moves p.events ≡ true → keeps_events b.arch ≡ true
  keeps jump =
      ⊎_elim
      (λ (on : keeps_events b.arch ≡ true). on)
      (λ (off : keeps_events b.arch ≡ false).
      let still : moves p.events ≡ false = ap (λ (q : Pooled). moves q.events) (pooled_is r s few) ∙ no_events (keeps_events b.arch) _ (none_kept off) off in
      absurd (true_is_not_false (sym jump ∙ still)))
      (keeps_or_not b.arch)

  module _ (on : keeps_events b.arch ≡ true) where
    laid : Ready r.code bound r.events r.constants r.asked b.arch b.code b.labels b.events b.asked
    laid = ready r s few

    abbrev q : Pooled
    q =
        laid_pooled b.arch b.code (take b.code r.code) (tables.entries (word_at bound) b.labels) (tables.entries (event_at r.events) b.events)
        (tables.entries (tables.use_at r.uses) b.uses) (tables.entries (tables.ref_at r.refs) b.refs) r.constants r.asked b.asked

    pooled_q : p ≡ q
    pooled_q =
        pooled_is r s few ∙ rw on

    pub formed : every (ref_clear p) p.refs ≡ true → WellFormed p
    formed clear =
        subst WellFormed (sym pooled_q)
        (well_formed r.code bound r.events r.constants r.asked b.arch b.code b.labels b.events b.asked laid q.uses q.refs
        (subst (λ (x : Pooled). every (ref_clear x) x.refs ≡ true) pooled_q clear))

    table_known : (i : ℕ) → i < b.events → Writes (event_at r.events i)
    table_known i h = recorded_writes r.events b.events b.labels b.code b.arch s.events i h

    many : length q.events ≡ b.events + b.asked
    many = many_events

    event_known : (i : ℕ) → i < length q.events → Writes (get_or q.events i no_event)
    event_known i h =
        ⊎_elim
        (λ (a : AtTable r.events b.events i (get_or q.events i no_event)). rw a.is (table_known i a.below))
        (λ (a : AtPool r.constants r.asked b.code b.events b.asked i (get_or q.events i no_event)). rw a.is tt)
        (event_at_lem r.events r.constants r.asked b.code b.events b.asked i no_event (omega (arith, many)))

    -- a constant of the pool lies apart from the events
    constant_apart : (i : ℕ) → i < length q.pool → Apart q (constant_of q i).offset (length (constant_of q i).bytes)
    constant_apart i h =
        let lt : i < b.asked = omega (arith, length_entries (pool_placed b.code r.constants r.asked) b.asked) in
        rw (get_d_entries (pool_placed b.code r.constants r.asked) b.asked i (record { offset = 0; bytes = [] }) lt)
        (pool_apart r.code bound r.events r.constants r.asked b.arch b.code b.labels b.events b.asked laid q.uses q.refs i lt)

    -- the alignments of the constants from number i on, of which only those after a constant of no bytes start where it stands
    alignment_on : (i k : ℕ) → i ≤ k → pool_start b.code r.constants r.asked k ≤ pool_offset b.code r.constants r.asked i
        → AlignsOn (constant_alignment (size_at r.constants r.asked i)) (pool_event b.code r.constants r.asked k)
    alignment_on i k le at =
        record {
          alignment = _;
          is = refl;
          some = omega (arith, alignment_range (size_at r.constants r.asked k));
          enough = omega (arith, alignment_range (size_at r.constants r.asked k));
          multiple =
              ⊎_elim
              (λ (same : i ≡ k). rw (← same) (mod_self (constant_alignment (size_at r.constants r.asked i))))
              (λ (ne : i ≢ k).
              let none : size_at r.constants r.asked i ≡ 0 =
              omega (arith, pool_start_suc b.code r.constants r.asked i, pool_start_grows b.code r.constants r.asked (suc i) k (omega arith)) in
              rw none (alignment_cases (λ (a : ℕ). a % 8 ≡ 0) refl refl refl (size_at r.constants r.asked k)))
              (eq_or_ne i k);
        }

    constant_ends : (i : ℕ) → i < length q.pool → EndsOn q (constant_alignment (length (constant_of q i).bytes)) (constant_of q i).offset
    constant_ends i h =
        let from = b.code in
        let ks = r.constants in
        let order = r.asked in
        let lt : i < b.asked = omega (arith, length_entries (pool_placed from ks order) b.asked) in
        let known : b.events + i < length q.events = omega (arith, many) in
        rw (get_d_entries (pool_placed from ks order) b.asked i (record { offset = 0; bytes = [] }) lt, (tied r s few).sized i lt)
        (record {
          number = b.events + i;
          known = known;
          ends =
              ⊎_elim
              (λ (a : AtTable r.events b.events (b.events + i) (get_or q.events (b.events + i) no_event)). absurd (omega (arith, a.below)))
              (λ (a : AtPool ks order from b.events b.asked (b.events + i) (get_or q.events (b.events + i) no_event)).
              let same : a.number ≡ i = omega (arith, a.place) in
              sym (ap end_of a.is ∙ ap (pool_offset from ks order) same))
              (event_at_lem r.events ks order from b.events b.asked (b.events + i) no_event (omega (arith, many)));
          on = λ k le l at.
              ⊎_elim
              (λ (a : AtTable r.events b.events k (get_or q.events k no_event)). absurd (omega (arith, a.below)))
              (λ (a : AtPool ks order from b.events b.asked k (get_or q.events k no_event)).
              rw a.is (alignment_on i a.number (omega (arith, a.place)) (omega (arith, ap start_of a.is))))
              (event_at_lem r.events ks order from b.events b.asked k no_event (omega (arith, many)));
        })

    all_known : (i : ℕ) → i < length p.events → Writes (demand.event_of p i)
    all_known = subst (λ (x : Pooled). (i : ℕ) → i < length x.events → Writes (demand.event_of x i)) (sym pooled_q) event_known

    ref_native : (i : ℕ) (k : LabelUse) → i < length p.refs → decoded (ref_of p i).code ≡ Use k → (info k).x86 ≡ true
    ref_native i k h is =
        let at = ref_is i h in
        let sound = (s.refs.entry i at.0).native in
        x86_kind (decoded (word_at r.refs (i * ref_words + 2))) k (sym (ap (λ (f : tables.Ref). decoded f.code) at.1) ∙ is)
        (subst (λ (a : ℕ). foreign (decoded (word_at r.refs (i * ref_words + 2))) a ≡ false) (kept_x64 b.arch on) sound)

    -- with a jump
    pub fitting : {ss : List Segment} {output labels code table : List ℕ} {len layouts : ℕ} → Fit r ss output
        → all_bound p (tables.view r).relocs ≡ true → Assembled p ss labels output code table len layouts → Fitting p (settled p).choice
    fitting fit bounds done =
        let c = (settled p).choice in
        record {
          formed = formed done.clear;
          recorded = omega (arith, fit.small);
          small = omega (arith, length_assembled p c, done.fits, fit.room);
          fits = none_fits p c (rounds_last (rounds_settle p));
          padded = λ e. omega (arith, kept_x64 b.arch on, ap (λ (x : Pooled). x.arch) pooled_q, e);
          modest =
              subst (λ (x : Pooled). Modest x.events) (sym pooled_q)
              (all_modest r.events b.events b.code r.constants r.asked (recorded laid) b.asked);
          bound = jumps_bound p (tables.view r).relocs bounds;
          known = λ i v h is. subst Writes is (all_known i h);
          native = ref_native;
          apart = λ i h. ref_apart p (ref_of p i) (every_at (ref_clear p) p.refs _ done.clear i h);
          pool_apart = subst (λ (x : Pooled). (i : ℕ) → i < length x.pool → Apart x (constant_of x i).offset (length (constant_of x i).bytes)) (sym pooled_q) constant_apart;
          pool_aligned = subst (λ (x : Pooled). (i : ℕ) → i < length x.pool → EndsOn x (constant_alignment (length (constant_of x i).bytes)) (constant_of x i).offset) (sym pooled_q) constant_ends;
          reach = λ i h. every_at (ref_reaches p c) p.refs _ done.reach i h;
        }
