-- What the scans of the tables find, as the definitions say it of the pooled recording.
use mathlib.Core.Path.{◌≡◌, refl, sym, ap, ◌∙◌}
use mathlib.Core.Logic.{⊎_elim}
use mathlib.Core.Bool.{Bool, true, false, not, ◌&&◌, ◌||◌, cond, or-false, and-true}
use mathlib.Core.List.{List, [], ◌∷◌, ◌++◌}
use Prim.Native.Nat.{ℕ, zero, suc, ◌+◌, ◌*◌, ◌<◌}
use native.Mathlib.Omega.{arith}
use lib.Dec.{eqb, leb}
use lib.ListN.{length}
use borrow.Author.Tests.{ne_eqb, eqb-true, lt-ltb, le-ltb, lt-leb, le-leb, not-false}
use Rattle.seqs.specs.Counting.{count}
use Rattle.seqs.specs.Pick.{pick, or_else, first_of}
use Rattle.seqs.proofs.Booleans.{both_false}
use Rattle.seqs.proofs.Counting.{count_none}
use Rattle.seqs.proofs.Every.{all_of, every_append}
use Rattle.seqs.proofs.Numbers.{lt_or_ge}
use Rattle.seqs.proofs.Picking.{no_eq}
use Rattle.words.specs.Words.{word_at}
use Rattle.fields.specs.Kinds.{decoded, size_of}
use Rattle.relax.specs.declared.LayoutEvent.{LayoutEvent}
use Rattle.relax.specs.declared.LayoutEvent.TheVariants.{Jump, Align, Far}
use Rattle.relax.specs.Events.{event_at, end_of, start_of}
use Rattle.relax.proofs.Columns.{start_at_lem, end_at_lem}
use Rattle.buffer.specs.State.{none, label_target, keeps_events}
use Rattle.buffer.specs.Tables.{use_words, ref_words}
use Rattle.recording.specs.Sound.{start_at, end_at}
use Rattle.recording.specs.View as tables
use Rattle.recording.specs.Open.{use_names, ref_names, jump_names, target_names, naming, is_open, open_of}
use Rattle.recording.proofs.Views.{get_d_entries, every_entries}
use Rattle.fresh.specs.Pooled.{Pooled}
use Rattle.fresh.specs.Forms.{moves, role_of}
use Rattle.fresh.proofs.Moves.{moves_append, still_all}
use Rattle.pool.specs.steps.Pool.{label_at, pool_start, pool_offset, pool_event, is_any_bound}
use Rattle.seqs.specs.Every.{all}
use Rattle.checks.specs.steps.Fields as checked
use Rattle.seqs.specs.Every.{every}
use Rattle.finish.specs.Refusals.{pool_bound_before, jump_bound, reloc_bound, all_bound, ref_clear, use_refusal, uses_refusal}
use Rattle.finish.specs.steps.Tables.{tables_pooled}

-- 13
none_bound : (labels constants asked : List ℕ) (n : ℕ)
    → not (all (λ (j : ℕ). not (not (eqb (word_at labels (label_at constants asked j)) none))) n) ≡ is_any_bound labels constants asked n
unfolding all is_any_bound
none_bound labels constants asked zero = refl
none_bound labels constants asked (suc n) =
    rw (← none_bound labels constants asked n)
    (by (all (λ (j : ℕ). not (not (eqb (word_at labels (label_at constants asked j)) none))) n) (not (eqb (word_at labels (label_at constants asked n)) none)))
  where
    by : (a b : Bool) → not (a && not b) ≡ (not a || b)
    by true true = refl
    by true false = refl
    by false b = refl

-- 13: a pooled constant's label is bound
pub pool_bound_lem : (v : tables.View) (labels constants asked : List ℕ) (count known n : ℕ)
    → v.labels ≡ tables.entries (word_at labels) count → v.constants ≡ tables.entries (tables.constant_at constants) known
    → v.asked ≡ tables.entries (word_at asked) n
    → ((j : ℕ) → j < n → word_at asked j < known) → ((j : ℕ) → j < n → label_at constants asked j < count)
    → pool_bound_before v ≡ is_any_bound labels constants asked n
unfolding pool_bound_before
pool_bound_lem v labels constants asked count known n el ec ea listed named =
    rw (el, ec, ea)
    (ap not
    (every_entries _ (word_at asked) (λ (j : ℕ). not (not (eqb (word_at labels (label_at constants asked j)) none))) n
    (λ j h.
    rw (get_d_entries (tables.constant_at constants) known (word_at asked j) (record { bytes = []; label = none }) (listed j h))
    (ap (λ (x : ℕ). not (not (eqb x none))) (get_d_entries (word_at labels) count (label_at constants asked j) none (named j h)))))
    ∙ none_bound labels constants asked n)

-- no label of a pooled constant is bound
pub unbound_at : (labels constants asked : List ℕ) (n : ℕ) → is_any_bound labels constants asked n ≡ false → (j : ℕ) → j < n → word_at labels (label_at constants asked j) ≡ none
unfolding is_any_bound
unbound_at labels constants asked zero h j k = absurd (omega arith)
unbound_at labels constants asked (suc n) h j k =
    let both = both_false (is_any_bound labels constants asked n) (not (eqb (word_at labels (label_at constants asked n)) none)) h in
    ⊎_elim
    (λ (lt : j < n). unbound_at labels constants asked n both.0 j lt)
    (λ ge. let e : j ≡ n = omega arith in rw e (eqb-true (word_at labels (label_at constants asked n)) none (not-false _ both.1)))
    (lt_or_ge j n)

-- 15: what names a label names a bound one just where it names no open one
jump_bound_lem : (labels : List ℕ) (e : LayoutEvent) → jump_bound labels e ≡ not (jump_names (is_open labels) e)
unfolding role_of
jump_bound_lem labels (Jump j) = refl
jump_bound_lem labels (Align a) = refl
jump_bound_lem labels (Far f) = refl

reloc_bound_lem : (labels : List ℕ) (l : tables.Relocation) → reloc_bound labels l ≡ not (target_names (is_open labels) l)
unfolding reloc_bound
reloc_bound_lem labels l =
    ⊎_elim
    (λ lt. rw (lt-ltb l.target label_target lt, lt-leb label_target l.target lt))
    (λ ge. rw (le-ltb l.target label_target ge, le-leb label_target l.target ge))
    (lt_or_ge l.target label_target)

every_same : {A : Type 0} (f g : A → Bool) → ((x : A) → f x ≡ g x) → (xs : List A) → every f xs ≡ every g xs
unfolding every
every_same f g same [] = refl
every_same f g same (x ∷ xs) = rw (same x, every_same f g same xs)

-- the pool's alignments name nothing
pads_bound : (labels constants asked : List ℕ) (from n : ℕ) (t : Bool) → every (jump_bound labels) (cond t (tables.entries (pool_event from constants asked) n) []) ≡ true
unfolding role_of every
pads_bound labels constants asked from n true =
    every_entries (jump_bound labels) (pool_event from constants asked) (λ (i : ℕ). true) n (λ i l. refl) ∙ all_of (λ (i : ℕ). true) n (λ i l. refl)
pads_bound labels constants asked from n false = refl

-- a sum is 0 just where each part is
none_of_two : (a b : ℕ) → eqb (a + b) 0 ≡ (eqb a 0 && eqb b 0)
none_of_two zero b = let z : 0 + b ≡ b = omega arith in rw z
none_of_two (suc a) b = rw (ne_eqb (suc a) 0 (λ e. omega arith)) (ne_eqb (suc a + b) 0 (λ e. omega arith))

none_of_four : (a b c d : ℕ) → eqb (a + b + c + d) 0 ≡ (eqb a 0 && (eqb c 0 && (eqb b 0 && eqb d 0)))
none_of_four a b c d =
    rw (none_of_two (a + b + c) d, none_of_two (a + b) c, none_of_two a b) (by (eqb a 0) (eqb b 0) (eqb c 0) (eqb d 0))
  where
    by : (a b c d : Bool) → (((a && b) && c) && d) ≡ (a && (c && (b && d)))
    by true true c d = refl
    by true false true d = refl
    by true false false d = refl
    by false b c d = refl

-- 15: every label that is named is bound just where no entry is open
pub none_open : (v : tables.View) (arch from : ℕ) (code constants asked : List ℕ) (m : ℕ)
    → all_bound (tables_pooled arch from code v.labels v.events v.uses v.refs constants asked m) v.relocs ≡ eqb (open_of v) 0
unfolding all_bound naming
none_open v arch from code constants asked m =
    let f = is_open v.labels in
    let bound = jump_bound v.labels in
    rw (
      none_of_four (count (use_names f) v.uses) (count (ref_names f) v.refs) (count (target_names f) v.relocs) (count (jump_names f) v.events),
      count_none (use_names f) v.uses,
      count_none (ref_names f) v.refs,
      count_none (target_names f) v.relocs,
      count_none (jump_names f) v.events,
      every_append bound v.events (cond (keeps_events arch) (tables.entries (pool_event from constants asked) m) []),
      pads_bound v.labels constants asked from m (keeps_events arch),
      and-true (every bound v.events),
      every_same bound (λ (e : LayoutEvent). not (jump_names f e)) (jump_bound_lem v.labels) v.events,
      every_same (reloc_bound v.labels) (λ (l : tables.Relocation). not (target_names f l)) (reloc_bound_lem v.labels) v.relocs,
    )

-- with and without a jump: the pool's alignments move nothing
pub moves_is : (p : Pooled) (events constants asked : List ℕ) (from n m : ℕ)
    → p.events ≡ tables.entries (event_at events) n ++ tables.entries (pool_event from constants asked) m
    → moves p.events ≡ moves (tables.entries (event_at events) n)
moves_is p events constants asked from n m ee =
    rw (ee, moves_append (tables.entries (event_at events) n) (tables.entries (pool_event from constants asked) m), still_all (pool_event from constants asked) m (λ i l. refl))
    (or-false (moves (tables.entries (event_at events) n)))

-- 17
pub refs_clear_lem : (p : Pooled) (refs events constants asked : List ℕ) (count n m from : ℕ)
    → p.refs ≡ tables.entries (tables.ref_at refs) count
    → p.events ≡ tables.entries (event_at events) n ++ tables.entries (pool_event from constants asked) m
    → length p.code ≡ pool_start from constants asked m
    → every (ref_clear p) p.refs ≡ checked.refs_clear refs count events n from constants asked m
unfolding checked.refs_clear checked.ref_clear checked.clear_of_events checked.clear_of_pool ref_clear
refs_clear_lem p refs events constants asked count n m from er ee el =
    ap (λ (l : List tables.Ref). every (ref_clear p) l) er
    ∙ every_entries (ref_clear p) (tables.ref_at refs) _ count
    (λ i h.
    let to = word_at refs (i * ref_words) + size_of (decoded (word_at refs (i * ref_words + 2))) in
    rw (el, ee)
    (ap (λ (t : Bool). leb to (pool_start from constants asked m) && t)
    (every_append (λ (e : LayoutEvent). leb (end_of e) (word_at refs (i * ref_words)) || leb to (start_of e)) (tables.entries (event_at events) n) (tables.entries (pool_event from constants asked) m)
    ∙ rw (
      every_entries (λ (e : LayoutEvent). leb (end_of e) (word_at refs (i * ref_words)) || leb to (start_of e)) (event_at events)
          (λ (j : ℕ). leb (end_at events j) (word_at refs (i * ref_words)) || leb to (start_at events j)) n (λ j l. rw (end_at_lem events j, start_at_lem events j)),
      every_entries (λ (e : LayoutEvent). leb (end_of e) (word_at refs (i * ref_words)) || leb to (start_of e)) (pool_event from constants asked)
          (λ (j : ℕ). leb (pool_offset from constants asked j) (word_at refs (i * ref_words)) || leb to (pool_start from constants asked j)) m (λ j l. refl),
    ))))

-- 19 to 22
or_else_last : (n m k : ℕ) → or_else (or_else n m) k ≡ or_else n (or_else m k)
unfolding pick
or_else_last zero m k = refl
or_else_last (suc n) m k =
    ap (λ (x : ℕ). or_else x k) (no_eq (suc n) 0 m (suc n) (λ e. omega arith))
    ∙ no_eq (suc n) 0 k (suc n) (λ e. omega arith)
    ∙ sym (no_eq (suc n) 0 (or_else m k) (suc n) (λ e. omega arith))

zero_last : (n : ℕ) → or_else n 0 ≡ n
unfolding pick
zero_last zero = refl
zero_last (suc n) = no_eq (suc n) 0 0 (suc n) (λ e. omega arith)

uses_more : (p : Pooled) (us : List tables.Use) (u : tables.Use) → uses_refusal p (us ++ (u ∷ [])) ≡ or_else (uses_refusal p us) (use_refusal p u)
unfolding uses_refusal pick
uses_more p [] u = zero_last (use_refusal p u)
uses_more p (x ∷ us) u = rw (uses_more p us u) (sym (or_else_last (use_refusal p x) (uses_refusal p us) (use_refusal p u)))

pub uses_refused : (p : Pooled) (uses labels : List ℕ) (count len n : ℕ) → p.labels ≡ tables.entries (word_at labels) count → length p.code ≡ len
    → ((i : ℕ) → i < n → word_at uses (i * use_words + 1) < count)
    → uses_refusal p (tables.entries (tables.use_at uses) n) ≡ checked.why_uses uses labels len n
unfolding checked.why_uses checked.why_unreached uses_refusal use_refusal first_of
uses_refused p uses labels count len zero el ec known = refl
uses_refused p uses labels count len (suc n) el ec known =
    uses_more p (tables.entries (tables.use_at uses) n) (tables.use_at uses n)
    ∙ rw (uses_refused p uses labels count len n el ec (λ i h. known i (omega arith)))
    (ap (λ (x : ℕ). pick (eqb (checked.why_uses uses labels len n) 0) x (checked.why_uses uses labels len n))
    (rw (ec, el, get_d_entries (word_at labels) count (word_at uses (n * use_words + 1)) none (known n (omega arith)))))
