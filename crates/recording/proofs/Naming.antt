-- How many entries name a label with a property: what one entry more adds, properties that add up, and what the scans over the tables find.
use mathlib.Core.Path.{◌≡◌, refl, sym, ap, ◌∙◌}
use mathlib.Core.Logic.{◌≢◌, ⊎_elim}
use mathlib.Core.Bool.{Bool, true, false, ◌&&◌}
use mathlib.Core.List.{List, [], ◌∷◌, ◌++◌}
use Prim.Native.Nat.{ℕ, zero, suc, ◌+◌, ◌-◌, ◌*◌, ◌≤◌, ◌<◌}
use native.Mathlib.Omega.{arith}
use borrow.Author.Tests.{eq-eqb, ne_eqb, le-leb, lt-leb}
use lib.Dec.{eqb, leb}
use lib.ListN.{length, get_or, set, get_or-eq_default}
use lib.Seq.{get_or-set_same, get_or-set_other}
use Rattle.seqs.specs.Pick.{pick}
use Rattle.seqs.specs.Counting.{one}
use Rattle.seqs.proofs.Numbers.{lt_or_ge, eq_or_ne}
use Rattle.seqs.proofs.Picking.{yes_lt, no_lt}
use Rattle.seqs.proofs.Counting.{count_more, count_le, count_same, count_sum}
use Rattle.words.specs.Words.{word_at}
use Rattle.relax.specs.declared.LayoutEvent.{LayoutEvent}
use Rattle.relax.specs.declared.LayoutEvent.TheVariants.{Jump, Align, Far}
use Rattle.relax.specs.Events.{event_of, event_at, event_words, jump_kind, alignment_kind, branch_kind, names_label}
use Rattle.naming.specs.Naming as tables
use Rattle.naming.specs.steps.Open.{is_open_at, opens_at, open_entries, open_jumps}
use Rattle.buffer.specs.State.{none, label_target}
use Rattle.buffer.specs.Tables.{use_words, ref_words, reloc_words}
use Rattle.buffer.specs.Open.{opened, target_opened, named}
use Rattle.buffer.specs.steps.Count.{open_count}
use Rattle.recording.specs.Calls.{Recording}
use Rattle.recording.specs.View.{entries, Use, use_at, Ref, ref_at, Relocation, reloc_at, View, view, see_labels, see_uses, see_refs, see_events, see_relocs}
use Rattle.recording.specs.Open.{use_names, ref_names, jump_names, target_names, naming, is_open, open_of}
use Rattle.recording.proofs.Views.{length_entries, get_d_entries, count_entries}

-- one entry more
module _ (f : ℕ → Bool) (v : View) where
  pub naming_use : (u : Use) → naming f (see_uses v (v.uses ++ (u ∷ []))) ≡ naming f v + one (f u.label)
  unfolding naming
  naming_use u = omega (arith, count_more (use_names f) v.uses u)

  pub naming_ref : (r : Ref) → naming f (see_refs v (v.refs ++ (r ∷ []))) ≡ naming f v + one (f r.label)
  unfolding naming
  naming_ref r = omega (arith, count_more (ref_names f) v.refs r)

  pub naming_event : (e : LayoutEvent) → naming f (see_events v (v.events ++ (e ∷ []))) ≡ naming f v + one (jump_names f e)
  unfolding naming
  naming_event e = omega (arith, count_more (jump_names f) v.events e)

  pub naming_reloc : (l : Relocation) → naming f (see_relocs v (v.relocs ++ (l ∷ []))) ≡ naming f v + one (target_names f l)
  unfolding naming
  naming_reloc l = omega (arith, count_more (target_names f) v.relocs l)

  -- no more than there are entries
  pub naming_le : naming f v ≤ length v.uses + length v.refs + length v.relocs + length v.events
  unfolding naming
  naming_le =
      omega (
        arith,
        count_le (use_names f) v.uses,
        count_le (ref_names f) v.refs,
        count_le (target_names f) v.relocs,
        count_le (jump_names f) v.events,
      )

-- properties that agree
pub naming_same : (f g : ℕ → Bool) → ((l : ℕ) → f l ≡ g l) → (v : View) → naming f v ≡ naming g v
unfolding naming
naming_same f g same v =
    rw (
      count_same (use_names f) (use_names g) (λ u. same u.label) v.uses,
      count_same (ref_names f) (ref_names g) (λ r. same r.label) v.refs,
      count_same (target_names f) (target_names g) (λ l. ap (λ (t : Bool). leb label_target l.target && t) (same (l.target - label_target))) v.relocs,
      count_same (jump_names f) (jump_names g) (λ e. by_event e) v.events,
    )
  where
    by_event : (e : LayoutEvent) → jump_names f e ≡ jump_names g e
    by_event (Jump j) = same j.label
    by_event (Align a) = refl
    by_event (Far b) = same b.label

-- a property that is one of two, never both
pub naming_sum : (f g h : ℕ → Bool) → ((l : ℕ) → one (f l) ≡ one (g l) + one (h l)) → (v : View) → naming f v ≡ naming g v + naming h v
unfolding naming pick
naming_sum f g h sums v =
    omega (
      arith,
      count_sum (use_names f) (use_names g) (use_names h) (λ u. sums u.label) v.uses,
      count_sum (ref_names f) (ref_names g) (ref_names h) (λ r. sums r.label) v.refs,
      count_sum (target_names f) (target_names g) (target_names h) (λ l. by_target (leb label_target l.target) (l.target - label_target)) v.relocs,
      count_sum (jump_names f) (jump_names g) (jump_names h) (λ e. by_event e) v.events,
    )
  where
    by_target : (t : Bool) (l : ℕ) → one (t && f l) ≡ one (t && g l) + one (t && h l)
    by_target true l = sums l
    by_target false l = refl

    by_event : (e : LayoutEvent) → one (jump_names f e) ≡ one (jump_names g e) + one (jump_names h e)
    by_event (Jump j) = sums j.label
    by_event (Align a) = refl
    by_event (Far b) = sums b.label

-- the columns of an event: a jump where its kind is 1, a branch where it is 3
jump_names_of : (f : ℕ → Bool) (kind start len what cc : ℕ) → jump_names f (event_of kind start len what cc) ≡ (names_label kind && f what)
unfolding event_of pick names_label
jump_names_of f kind start len what cc =
    ⊎_elim
    (λ (e : kind ≡ jump_kind). rw (eq-eqb kind jump_kind e))
    (λ ne. rw (ne_eqb kind jump_kind ne) (⊎_elim (λ (e : kind ≡ branch_kind). rw (eq-eqb kind branch_kind e)) (λ other. rw (ne_eqb kind branch_kind other)) (eq_or_ne kind branch_kind)))
    (eq_or_ne kind jump_kind)

pub jump_names_at : (f : ℕ → Bool) (events : List ℕ) (i : ℕ)
    → jump_names f (event_at events i) ≡ (names_label (word_at events (i * event_words)) && f (word_at events (i * event_words + 3)))
unfolding event_at
jump_names_at f events i =
    jump_names_of f (word_at events (i * event_words)) (word_at events (i * event_words + 1)) (word_at events (i * event_words + 2)) (word_at events (i * event_words + 3)) (word_at events (i * event_words + 4))

pub jump_names_new : (f : ℕ → Bool) (start len label cc : ℕ) → jump_names f (event_of jump_kind start len label cc) ≡ f label
unfolding names_label
jump_names_new f start len label cc = jump_names_of f jump_kind start len label cc

pub alignment_names_none : (f : ℕ → Bool) (start len multiple most : ℕ) → jump_names f (event_of alignment_kind start len multiple most) ≡ false
unfolding names_label
alignment_names_none f start len multiple most = jump_names_of f alignment_kind start len multiple most

-- a target that names the label L is L + 2^31
target_is : (w l : ℕ) → (leb label_target w && eqb (w - label_target) l) ≡ eqb w (label_target + l)
target_is w l =
    ⊎_elim
    (λ lt. rw (lt-leb label_target w lt) (sym (ne_eqb w (label_target + l) (λ e. omega arith))))
    (λ ge.
    rw (le-leb label_target w ge)
    (⊎_elim
    (λ (e : w ≡ label_target + l). let d : w - label_target ≡ l = omega arith in eq-eqb (w - label_target) l d ∙ sym (eq-eqb w (label_target + l) e))
    (λ ne. ne_eqb (w - label_target) l (λ d. let e : w ≡ label_target + l = omega arith in ne e) ∙ sym (ne_eqb w (label_target + l) ne))
    (eq_or_ne w (label_target + l))))
    (lt_or_ge w label_target)

-- What a bind counts are the entries that name its label.
pub named_is : (r : Recording) (label : ℕ)
    → named r.buffer r.events r.uses r.refs r.relocs label ≡ naming (λ (l : ℕ). eqb l label) (view r)
unfolding named naming tables.naming tables.jumps_naming
named_is r label =
    let f : ℕ → Bool = λ l. eqb l label in
    rw (
      count_entries (use_names f) (use_at r.uses) (tables.holds_at r.uses use_words 1 label) r.buffer.uses (λ i h. refl),
      count_entries (ref_names f) (ref_at r.refs) (tables.holds_at r.refs ref_words 1 label) r.buffer.refs (λ i h. refl),
      count_entries (target_names f) (reloc_at r.relocs) (tables.holds_at r.relocs reloc_words 2 (label_target + label)) r.buffer.relocs (λ i h. target_is (word_at r.relocs (i * reloc_words + 2)) label),
      count_entries (jump_names f) (event_at r.events) (tables.jump_names r.events label) r.buffer.events (λ i h. jump_names_at f r.events i),
    )

-- a label is open in the list as in the table
pub open_at : (labels : List ℕ) (n l : ℕ) → is_open (entries (word_at labels) n) l ≡ is_open_at labels n l
unfolding is_open_at
open_at labels n l =
    ⊎_elim
    (λ lt. rw (get_d_entries (word_at labels) n l none lt, lt-leb n l lt))
    (λ ge. rw (get_or-eq_default (entries (word_at labels) n) none {n = l} (omega (arith, length_entries (word_at labels) n)), le-leb n l ge))
    (lt_or_ge l n)

-- The count over the tables, as the scans make it.
pub open_count_lem : (r : Recording) → open_of (view r) ≡ open_count r.buffer r.labels r.events r.uses r.refs r.relocs
unfolding naming open_count open_entries open_jumps
open_count_lem r =
    let f = is_open (view r).labels in
    let n = r.buffer.labels in
    let agree = open_at r.labels n in
    let zero_base : (w : ℕ) → f w ≡ opens_at r.labels n 0 w = λ w. let e : w - 0 ≡ w = omega arith in rw (le-leb 0 w (omega arith), e) (agree w) in
    rw (
      count_entries (use_names f) (use_at r.uses) (λ (i : ℕ). opens_at r.labels n 0 (word_at r.uses (i * use_words + 1))) r.buffer.uses (λ i h. zero_base (word_at r.uses (i * use_words + 1))),
      count_entries (ref_names f) (ref_at r.refs) (λ (i : ℕ). opens_at r.labels n 0 (word_at r.refs (i * ref_words + 1))) r.buffer.refs (λ i h. zero_base (word_at r.refs (i * ref_words + 1))),
      count_entries (target_names f) (reloc_at r.relocs) (λ (i : ℕ). opens_at r.labels n label_target (word_at r.relocs (i * reloc_words + 2))) r.buffer.relocs
          (λ i h. ap (λ (t : Bool). leb label_target (word_at r.relocs (i * reloc_words + 2)) && t) (agree (word_at r.relocs (i * reloc_words + 2) - label_target))),
      count_entries (jump_names f) (event_at r.events) (λ (i : ℕ). names_label (word_at r.events (i * event_words)) && is_open_at r.labels n (word_at r.events (i * event_words + 3))) r.buffer.events
          (λ i h. jump_names_at f r.events i ∙ ap (λ (t : Bool). names_label (word_at r.events (i * event_words)) && t) (agree (word_at r.events (i * event_words + 3)))),
    )

-- 1 for a new entry whose label is not bound
pub opened_is : (labels : List ℕ) (n label : ℕ) → label < n → one (is_open (entries (word_at labels) n) label) ≡ opened labels label
opened_is labels n label h = rw (get_d_entries (word_at labels) n label none h)

pub target_opened_is : (labels : List ℕ) (n : ℕ) (l : Relocation) → (label_target ≤ l.target → l.target - label_target < n)
    → one (target_names (is_open (entries (word_at labels) n)) l) ≡ target_opened labels l.target
unfolding pick
target_opened_is labels n l known =
    ⊎_elim
    (λ lt. rw (lt-leb label_target l.target lt) (sym (yes_lt l.target label_target 0 _ lt)))
    (λ ge. rw (le-leb label_target l.target ge) (opened_is labels n (l.target - label_target) (known ge) ∙ sym (no_lt l.target label_target 0 _ ge)))
    (lt_or_ge l.target label_target)

-- a new label is open, as the unknown one was
get_d_none_more : (labels : List ℕ) (l : ℕ) → get_or (labels ++ (none ∷ [])) l none ≡ get_or labels l none
get_d_none_more [] zero = refl
get_d_none_more [] (suc l) = refl
get_d_none_more (x ∷ labels) zero = refl
get_d_none_more (x ∷ labels) (suc l) = get_d_none_more labels l

pub open_new_label : (v : View) → open_of (see_labels v (v.labels ++ (none ∷ []))) ≡ open_of v
unfolding naming
open_new_label v =
    naming_same (is_open (v.labels ++ (none ∷ []))) (is_open v.labels) (λ l. ap (λ (x : ℕ). eqb x none) (get_d_none_more v.labels l)) v

-- Once a label is bound, the entries that name it are open no more.
pub open_bound : (v : View) (label code : ℕ) → label < length v.labels → get_or v.labels label none ≡ none → code ≢ none
    → open_of v ≡ open_of (see_labels v (set v.labels label code)) + naming (λ (l : ℕ). eqb l label) v
unfolding naming pick
open_bound v label code known free bound =
    naming_sum (is_open v.labels) (is_open (set v.labels label code)) (λ (l : ℕ). eqb l label)
    (λ l.
    ⊎_elim
    (λ (same : l ≡ label).
    rw (same, free, get_or-set_same v.labels label code none known, ne_eqb code none bound, eq-eqb label label refl))
    (λ other.
    rw (get_or-set_other v.labels label l code none other, ne_eqb l label other) (omega arith))
    (eq_or_ne l label))
    v

-- bound to the offset of a label that is not bound, it stays open
pub open_unbound : (v : View) (label : ℕ) → label < length v.labels → get_or v.labels label none ≡ none
    → open_of (see_labels v (set v.labels label none)) ≡ open_of v
unfolding naming
open_unbound v label known free =
    naming_same (is_open (set v.labels label none)) (is_open v.labels)
    (λ l.
    ⊎_elim
    (λ (same : l ≡ label). rw (same, free, get_or-set_same v.labels label none none known))
    (λ other. rw (get_or-set_other v.labels label l none none other))
    (eq_or_ne l label))
    v
