-- Marks: after i turns a number is marked if it is one of the first i.
use mathlib.Core.Path.{◌≡◌, refl, sym, ◌∙◌}
use mathlib.Core.Logic.{◌≢◌, ⊎_elim}
use mathlib.Core.Bool.{Bool, true, false, not, ◌&&◌, ◌||◌, or-false}
use mathlib.Core.List.{List}
use Prim.Native.Nat.{ℕ, ◌+◌, ◌*◌, ◌≤◌, ◌<◌}
use native.Mathlib.Numerals.{add-one}
use native.Mathlib.Omega.{arith}
use borrow.Author.Tests.{eq-eqb, ne_eqb, lt-ltb, le-ltb, ltb-true, eqb-false, not-true}
use lib.Dec.{eqb, ltb}
use lib.ListN.{length, get_or, set, length-set, replicate, length-replicate, get_or-replicate}
use lib.Seq.{get_or-set_same, get_or-set_other}
use Rattle.seqs.proofs.Numbers.{eq_or_ne}
use Rattle.seqs.proofs.Booleans.{both_true}
use Rattle.words.specs.Words.{word_at}
use Rattle.buffer.specs.State.{none}
use Rattle.buffer.specs.Tables.{constant_size}
use Rattle.seqs.specs.Every.{all}
use Rattle.checks.specs.Entries.{asked_fits, asked_once, is_asked, order_fits}
use Rattle.checks.specs.steps.Handed.{occurs, Marks, Marking, Labelled, asked_label, new_at, unlabelled, unlabelled_or}
use Rattle.seqs.proofs.Every.{all_same, all_both}

-- before the first turn
pub marks_blank : (most : ℕ) (f : ℕ → ℕ) → Marks (replicate most false) f 0
unfolding occurs all
marks_blank most f = record { marked = λ k l. get_or-replicate most k false false (rw (length-replicate most false) at l) }

not_and : (t u : Bool) → not (t && not u) ≡ (u || not t)
not_and true true = refl
not_and true false = refl
not_and false true = refl
not_and false false = refl

occurs_next : (f : ℕ → ℕ) (i k : ℕ) → occurs f (i + 1) k ≡ (eqb (f i) k || occurs f i k)
unfolding occurs all
occurs_next f i k = rw (add-one i) (not_and (all (λ (j : ℕ). not (eqb (f j) k)) i) (eqb (f i) k))

pub marks_next : (marks : List Bool) (f : ℕ → ℕ) (i v : ℕ) → Marks marks f i → v ≡ f i → v < length marks → Marks (set marks v true) f (i + 1)
marks_next marks f i v m e l =
    record {
      marked = λ k h.
          ⊎_elim
          (λ (same : k ≡ v). rw (same, occurs_next f i v, eq-eqb (f i) v (sym e)) (get_or-set_same marks v true false l))
          (λ (other : k ≢ v).
          rw (occurs_next f i k, ne_eqb (f i) k (λ (q : f i ≡ k). other (sym q ∙ sym e))) (get_or-set_other marks v k true false other ∙ m.marked k (rw (length-set marks v true) at h)))
          (eq_or_ne k v);
    }

not_not : (t : Bool) → not (not t) ≡ t
not_not true = refl
not_not false = refl

pub once_unmarked : (asked constants : List ℕ) (i : ℕ)
    → asked_once asked constants i ≡ (not (occurs (word_at asked) i (word_at asked i)) && not (occurs (asked_label constants asked) i (asked_label constants asked i)))
unfolding asked_once occurs
once_unmarked asked constants i =
    rw (
      not_not (all (λ (j : ℕ). not (eqb (word_at asked j) (word_at asked i))) i),
      not_not (all (λ (j : ℕ). not (eqb (asked_label constants asked j) (asked_label constants asked i))) i),
    )
    (all_both (λ (j : ℕ). not (eqb (word_at asked j) (word_at asked i))) (λ (j : ℕ). not (eqb (asked_label constants asked j) (asked_label constants asked i))) i)

and_false : (t : Bool) → (t && false) ≡ false
and_false true = refl
and_false false = refl

module _ (asked constants : List ℕ) (known i : ℕ) where
  pub new_unknown : known ≤ word_at asked i → false ≡ new_at asked constants known i
  unfolding asked_fits
  new_unknown h = rw (le-ltb (word_at asked i) known h)

  pub new_unlabelled : asked_label constants asked i ≡ none → false ≡ new_at asked constants known i
  unfolding asked_fits
  new_unlabelled h = rw (eq-eqb (asked_label constants asked i) none h, and_false (ltb (word_at asked i) known))

pub new_marked : (asked : List ℕ) {constants : List ℕ} {known i : ℕ} {seen taken : List Bool} → Marking asked constants known i seen taken → word_at asked i < known
    → asked_label constants asked i ≢ none
    → (not (get_or seen (word_at asked i) false) && not (get_or taken (asked_label constants asked i) false)) ≡ new_at asked constants known i
unfolding asked_fits
new_marked asked {constants} {known} {i} m h l =
    rw (
      lt-ltb (word_at asked i) known h,
      ne_eqb (asked_label constants asked i) none l,
      once_unmarked asked constants i,
      m.constants_marked.marked (word_at asked i) (omega (arith, m.enough)),
      m.labels_marked.marked (asked_label constants asked i) (m.labelled.label (word_at asked i) h l),
    )

-- a constant is listed where it is marked
pub each_asked : (asked : List ℕ) (n : ℕ) (constants : List ℕ) (known : ℕ) (seen : List Bool) → known ≤ length seen → Marks seen (word_at asked) n
    → all (unlabelled_or constants seen) known ≡ all (λ (k : ℕ). unlabelled constants k || is_asked asked n k) known
unfolding is_asked occurs
each_asked asked n constants known seen h m =
    all_same (unlabelled_or constants seen) (λ (k : ℕ). unlabelled constants k || is_asked asked n k) known (λ k l. rw (m.marked k (omega arith)))

-- Where nothing is asked for, no constant may have a label.
pub order_unasked : (asked : List ℕ) (n : ℕ) (constants : List ℕ) (known : ℕ) → n ≡ 0 → all (unlabelled constants) known ≡ order_fits asked n constants known
unfolding order_fits is_asked all
order_unasked asked n constants known e =
    rw e (all_same (unlabelled constants) (λ (k : ℕ). unlabelled constants k || false) known (λ k l. sym (or-false (unlabelled constants k))))

pub order_fails : (asked : List ℕ) (n : ℕ) (constants : List ℕ) (known : ℕ) → all (new_at asked constants known) n ≡ false → false ≡ order_fits asked n constants known
unfolding order_fits
order_fails asked n constants known e = rw e

pub order_holds : (asked : List ℕ) (n : ℕ) (constants : List ℕ) (known : ℕ) {seen taken : List Bool} → Marking asked constants known n seen taken
    → all (new_at asked constants known) n ≡ true → all (unlabelled_or constants seen) known ≡ order_fits asked n constants known
unfolding order_fits
order_holds asked n constants known {seen} m e = rw e (each_asked asked n constants known seen m.enough m.constants_marked)

-- an entry that is fit and new has its marks
pub record New (asked constants : List ℕ) (known i : ℕ) (seen taken : List Bool) : Type 0 where
  pub few : word_at asked i < length seen
  pub room : word_at asked i * constant_size + constant_size ≤ length constants
  pub label : asked_label constants asked i < length taken

pub new_entry : {asked constants : List ℕ} {known i : ℕ} {seen taken : List Bool} → Marking asked constants known i seen taken
    → new_at asked constants known i ≡ true → New asked constants known i seen taken
unfolding asked_fits
new_entry {asked} {constants} {known} {i} m e =
    let fit = both_true (ltb (word_at asked i) known) (not (eqb (asked_label constants asked i) none)) (both_true (asked_fits asked constants known i) (asked_once asked constants i) e).0 in
    let below = ltb-true (word_at asked i) known fit.0 in
    record {
      few = omega (arith, below, m.enough);
      room = omega (arith, below, m.labelled.room);
      label = m.labelled.label (word_at asked i) below (eqb-false (asked_label constants asked i) none (not-true (eqb (asked_label constants asked i) none) fit.1));
    }

-- labels below a bound are below a greater one
pub labelled_more : {constants : List ℕ} {n labels : ℕ} (most : ℕ) → Labelled constants n labels → labels ≤ most → Labelled constants n most
labelled_more most c h = record { room = c.room; label = λ i l has. omega (arith, c.label i l has) }

-- one constant more is marked, and its label
pub marking_next : {asked constants : List ℕ} {known i : ℕ} {seen taken : List Bool} {constant label : ℕ} → Marking asked constants known i seen taken
    → New asked constants known i seen taken → constant ≡ word_at asked i → label ≡ asked_label constants asked i
    → Marking asked constants known (i + 1) (set seen constant true) (set taken label true)
marking_next {asked} {constants} {known} {i} {seen} {taken} {constant} {label} m new e f =
    record {
      labelled = rw (length-set taken label true) m.labelled;
      enough = rw (length-set seen constant true) m.enough;
      constants_marked = marks_next seen (word_at asked) i constant m.constants_marked e (omega (arith, new.few));
      labels_marked = marks_next taken (asked_label constants asked) i label m.labels_marked f (omega (arith, new.label));
    }

-- marks that are all clear, `most` for constants and as many for labels
pub marking_blank : (asked : List ℕ) {constants : List ℕ} {known : ℕ} (most : ℕ) → known ≤ most → Labelled constants known most
    → Marking asked constants known 0 (replicate most false) (replicate most false)
marking_blank asked {constants} most h c =
    record {
      labelled = rw (length-replicate most false) c;
      enough = rw (length-replicate most false) h;
      constants_marked = marks_blank most (word_at asked);
      labels_marked = marks_blank most (asked_label constants asked);
    }
