-- With or without a jump: what is answered and left once the pool's labels are bound.
use mathlib.Core.Path.{◌≡◌, refl, sym, ap, ◌∙◌}
use mathlib.Core.Logic.{◌≢◌, ⊎_elim}
use mathlib.Core.Bool.{Bool, true, false, not, cond}
use mathlib.Core.List.{List, [], ◌∷◌, ◌++◌}
use Prim.Native.Nat.{ℕ, ◌+◌}
use native.Mathlib.Omega.{arith}
use lib.Dec.{eqb, ltb}
use lib.ListN.{length, take}
use Rattle.std.specs.Prelude.{Option, Some, None}
use Rattle.refusals.specs.Numbers as refusals
use Rattle.seqs.specs.Pick.{pick, first}
use Rattle.seqs.proofs.Booleans.{true_is_not_false}
use Rattle.seqs.proofs.Picking.{pick_yes, pick_no}
use Rattle.words.specs.Words.{word_at}
use Rattle.relax.specs.declared.LayoutEvent.{LayoutEvent}
use Rattle.relax.specs.Events.{event_at}
use Rattle.relax.specs.declared.Segment.{Segment}
use Rattle.buffer.specs.declared.CodeBuffer.{CodeBuffer}
use Rattle.buffer.specs.State.{keeps_events}
use Rattle.buffer.specs.steps.Count.{open_count}
use Rattle.recording.specs.View as tables
use Rattle.recording.proofs.Naming.{open_count_lem}
use Rattle.fresh.specs.Pooled.{Pooled}
use Rattle.fresh.specs.Forms.{moves}
use Rattle.pool.specs.steps.Pool.{pool_event}
use Rattle.emit.specs.steps.Emit.{WordsFit}
use Rattle.checks.specs.Lent.{recording_of}
use Rattle.checks.specs.steps.Fields.{refs_clear}
use Rattle.finish.specs.Refusals.{all_bound, why_not_in_place}
use Rattle.finish.specs.Finish.{Outcome, Left, refused_with, relaxed, unrelaxed}
use Rattle.finish.specs.steps.Tables.{tables_pooled, laid_pooled}
use Rattle.finish.specs.steps.Ready.{Relaxable, kept, Placeable, pooled_of, placed_as, Starts}
use Rattle.finish.proofs.ScansAgree.{none_open, moves_is}
use Rattle.finish.proofs.StageAnswers.{refused_early}

abbrev or_given : {A : Type 0} → A → Option A → A
or_given x None = x
or_given x (Some y) = y

pub given : {A : Type 0} {x y : A} → Some x ≡ Some y → x ≡ y
given {x = x} e = ap (or_given x) e

no_entries : {A : Type 0} (f : ℕ → A) (t : Bool) (n : ℕ) → cond t (tables.entries f n) [] ≡ tables.entries f (cond t n 0)
no_entries f true n = refl
no_entries f false n = refl

-- what is kept, beside what is left alone
abbrev beside : List ℕ → List ℕ → List Segment → Outcome × List ℕ → Outcome × Left
beside labels relocs ss x = (x.0, (labels, (relocs, (ss, x.1))))

pick_beside : (labels relocs : List ℕ) (ss : List Segment) (t : Bool) (x y : Outcome × List ℕ)
    → beside labels relocs ss (pick t x y) ≡ pick t (beside labels relocs ss x) (beside labels relocs ss y)
unfolding pick
pick_beside labels relocs ss true x y = refl
pick_beside labels relocs ss false x y = refl

kept_beside : (p : Pooled) (labels relocs : List ℕ) (ss : List Segment) (output left : List ℕ) (r : Outcome) → (r, left) ≡ kept p output
    → beside labels relocs ss (r, left) ≡ unrelaxed p labels relocs ss output
unfolding kept unrelaxed
kept_beside p labels relocs ss output left r e =
    ap (beside labels relocs ss) e ∙ pick_beside labels relocs ss (eqb (why_not_in_place p (length output)) 0) _ _

module _ {b : CodeBuffer} {code labels events uses refs constants asked relocs output : List ℕ} {segments : ℕ}
    (x : Placeable b code labels events uses refs constants asked relocs output segments) where
  abbrev p : Pooled
  p = pooled_of b code labels events uses refs constants asked

  events_are : p.events ≡ tables.entries (event_at events) b.events ++ tables.entries (pool_event b.code constants asked) (cond (keeps_events b.arch) b.asked 0)
  events_are = ap (λ (l : List LayoutEvent). tables.entries (event_at events) b.events ++ l) (no_entries (pool_event b.code constants asked) (keeps_events b.arch) b.asked)

  -- 15, as the count over the tables says it
  bound_is : all_bound p (tables.entries (tables.reloc_at relocs) b.relocs) ≡ eqb (open_count b labels events uses refs relocs) 0
  bound_is =
      let r = recording_of b code labels events uses refs constants asked relocs in
      none_open (tables.view r) b.arch b.code (take b.code code) constants asked b.asked ∙ ap (λ (k : ℕ). eqb k 0) (open_count_lem r)

  jump_is : moves p.events ≡ moves (tables.entries (event_at events) b.events)
  jump_is = moves_is p events constants asked b.code b.events (cond (keeps_events b.arch) b.asked 0) events_are

  -- a recording with a jump keeps events
  keeps_them : moves (tables.entries (event_at events) b.events) ≡ true → keeps_events b.arch ≡ true
  unfolding moves
  keeps_them h =
      ⊎_elim
      (λ (e : keeps_events b.arch ≡ true). e)
      (λ (e : b.events ≡ 0).
      absurd (true_is_not_false (sym h ∙ ap (λ (k : ℕ). moves (tables.entries (event_at events) k)) e)))
      x.ready.recorded.tracked

  relocs_fit_lem : WordsFit relocs 6 b.relocs
  relocs_fit_lem = record {
    some = omega arith;
    entry = λ i h. omega (arith, x.entered.relocated.room);
    recorded = λ i h bound. omega (arith, (x.entered.relocated.entry i h).offset);
  }

  pub relaxable : moves (tables.entries (event_at events) b.events) ≡ true
      → Relaxable code labels events refs constants asked relocs output segments b.arch b.code b.labels b.events b.asked b.refs b.relocs
  relaxable h = record {
    ready = x.ready;
    referred = x.entered.referred;
    moved = relocs_fit_lem;
    few = x.namers.events_few;
    segments_limit = x.segments_limit;
    output_limit = x.output_limit;
  }

  module _ {bound : Bool} (bound·answer : bound ≡ eqb (open_count b labels events uses refs relocs) 0) where
    pub placed_unbound : {r : Outcome} → bound ≡ false → r ≡ refused_with refusals.unbound_label → (ss : List Segment) → (r, (labels, (relocs, (ss, output)))) ≡ placed_as p b labels relocs ss output
    unfolding placed_as
    placed_unbound e er ss = rw (er, bound_is ∙ sym bound·answer) (sym (pick_no bound _ _ e))

    module _ (all·bound : bound ≡ true) {jump : Bool} (jump·answer : jump ≡ moves (tables.entries (event_at events) b.events)) where
      -- what keeps events has the pool's alignments among them
      laid_is : keeps_events b.arch ≡ true → p ≡ laid_pooled b.arch b.code (take b.code code) (tables.entries (word_at labels) b.labels) (tables.entries (event_at events) b.events) (tables.entries (tables.use_at uses) b.uses) (tables.entries (tables.ref_at refs) b.refs) constants asked b.asked
      laid_is e = rw e

      placed_relaxed : jump ≡ true → (ss : List Segment) (left : Outcome × Left)
          → ((us : List tables.Use) → left ≡ relaxed (laid_pooled b.arch b.code (take b.code code) (tables.entries (word_at labels) b.labels) (tables.entries (event_at events) b.events) us (tables.entries (tables.ref_at refs) b.refs) constants asked b.asked) b.relocs labels relocs ss output)
          → left ≡ placed_as p b labels relocs ss output
      unfolding placed_as
      placed_relaxed e ss left is =
          rw (bound_is ∙ sym bound·answer, jump_is ∙ sym jump·answer)
          (sym (pick_yes bound _ _ all·bound ∙ pick_yes jump _ _ e ∙ rw (laid_is (keeps_them (sym jump·answer ∙ e))) (sym (is (tables.entries (tables.use_at uses) b.uses)))))

      -- with a jump: 16 and 17, or a layout
      module _ (jumps : jump ≡ true) {why : ℕ}
          (why·answer : why ≡ first ((ltb segments (b.events + b.asked), refusals.too_few_segments) ∷ (not (refs_clear refs b.refs events b.events b.code constants asked b.asked), refusals.ref_overlaps) ∷ [])) where
        relaxes : Relaxable code labels events refs constants asked relocs output segments b.arch b.code b.labels b.events b.asked b.refs b.relocs
        relaxes = relaxable (sym jump·answer ∙ jumps)

        pub started_refused : why ≢ 0 → {r : Outcome} → r ≡ refused_with why → (ss : List Segment) → length ss ≡ segments
            → (r, (labels, (relocs, (ss, output)))) ≡ placed_as p b labels relocs ss output
        started_refused ne er ss l =
            placed_relaxed jumps ss _
            (λ us.
            let x : Relaxable code labels events refs constants asked relocs output (length ss) b.arch b.code b.labels b.events b.asked b.refs b.relocs = rw l relaxes in
            refused_early ss x us (rw l why·answer) ne er)

        pub starts : why ≡ 0 → Starts b code labels events uses refs constants asked relocs output output segments
        starts z = record { kept = refl; relaxable = relaxes; laid = sym z ∙ why·answer; placed = placed_relaxed jumps }

      pub placed_kept : jump ≡ false → {r : Outcome} {left : List ℕ}
          → ((es : List LayoutEvent) (rs : List tables.Ref) → (r, left) ≡ kept (tables_pooled b.arch b.code (take b.code code) (tables.entries (word_at labels) b.labels) es (tables.entries (tables.use_at uses) b.uses) rs constants asked b.asked) output)
          → (ss : List Segment) → (r, (labels, (relocs, (ss, left)))) ≡ placed_as p b labels relocs ss output
      unfolding placed_as
      placed_kept e {r} {left} is ss =
          rw (bound_is ∙ sym bound·answer, jump_is ∙ sym jump·answer)
          (kept_beside p labels relocs ss output left r (is (tables.entries (event_at events) b.events) (tables.entries (tables.ref_at refs) b.refs))
          ∙ sym (pick_yes bound _ _ all·bound ∙ pick_no jump _ _ e))
