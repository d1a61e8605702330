-- The greatest offset of a label below a limit: that it decides whether a label lies inside a jump, and how it changes with the labels and with the limit.
use mathlib.Core.Path.{◌≡◌, refl, sym, ◌∙◌}
use mathlib.Core.Logic.{⊎_elim}
use mathlib.Core.Bool.{◌&&◌, ◌||◌}
use mathlib.Core.List.{List}
use Prim.Native.Nat.{ℕ, zero, suc, ◌+◌, ◌*◌, max, ◌≤◌, ◌<◌}
use native.Mathlib.Nat.{not-suc-le-zero}
use native.Mathlib.Numerals.{add-one}
use native.Mathlib.Omega.{arith}
use borrow.Author.Tests.{lt-ltb, le-ltb}
use lib.Dec.{ltb}
use lib.ListN.{length}
use Rattle.seqs.proofs.Numbers.{lt_or_ge}
use Rattle.seqs.proofs.Picking.{yes_lt, no_lt}
use Rattle.words.specs.Words.{word_at, set_word}
use Rattle.words.proofs.Laws.{word_at_same, word_at_other}
use Rattle.buffer.specs.State.{none}
use Rattle.buffer.specs.Refusals.{label_inside}
use Rattle.buffer.specs.Tables.{label_size}
use Rattle.buffer.specs.steps.Below.{under, greatest_below}

pub under_yes : (at limit : ℕ) → at < limit → under at limit ≡ at
under_yes at limit h = yes_lt at limit at 0 h

pub under_no : (at limit : ℕ) → limit ≤ at → under at limit ≡ 0
under_no at limit h = no_lt at limit at 0 h

-- a number lies below both or below neither
same_test : (start a b : ℕ) → (start < a → start < b) → (start < b → start < a) → ltb start a ≡ ltb start b
same_test start a b there back =
    ⊎_elim
    (λ (h : start < a). rw (lt-ltb start a h, lt-ltb start b (there h)))
    (λ (h : a ≤ start).
    ⊎_elim
    (λ (k : start < b). absurd (let z = back k in omega arith))
    (λ (k : b ≤ start). rw (le-ltb start a h, le-ltb start b k))
    (lt_or_ge start b))
    (lt_or_ge start a)

-- one offset more is looked at
one_inside : (start at end g : ℕ) → (ltb start at && ltb at end || ltb start g) ≡ ltb start (max (under at end) g)
one_inside start at end g =
    ⊎_elim
    (λ (near : at < end).
    rw (under_yes at end near, lt-ltb at end near) (
    ⊎_elim
    (λ (h : start < at). rw (lt-ltb start at h, lt-ltb start (max at g) (omega arith)))
    (λ (h : at ≤ start). rw (le-ltb start at h) (same_test start g (max at g) (λ k. omega arith) (λ k. omega arith)))
    (lt_or_ge start at)
    ))
    (λ (far : end ≤ at).
    let same : max 0 g ≡ g = omega arith in
    rw (under_no at end far, le-ltb at end far, same) (
    ⊎_elim
    (λ (h : start < at). rw (lt-ltb start at h))
    (λ (h : at ≤ start). rw (le-ltb start at h))
    (lt_or_ge start at)
    ))
    (lt_or_ge at end)

-- A label lies strictly inside just if the greatest offset below the end lies after the start.
pub inside_below : (labels : List ℕ) (n start end : ℕ) → label_inside labels n start end ≡ ltb start (greatest_below labels n end)
unfolding label_inside greatest_below
inside_below labels zero start end = sym (le-ltb start 0 (omega arith))
inside_below labels (suc n) start end = rw (inside_below labels n start end) (one_inside start (word_at labels n) end (greatest_below labels n end))

-- one more label is looked at
pub below_step : (labels : List ℕ) (i limit : ℕ) → max (under (word_at labels i) limit) (greatest_below labels i limit) ≡ greatest_below labels (i + 1) limit
unfolding greatest_below
below_step labels i limit = rw (add-one i)

under_nearer : (at limit nearer : ℕ) → under at limit < nearer → nearer ≤ limit → under at nearer ≡ under at limit
under_nearer at limit nearer h le =
    ⊎_elim
    (λ (l : at < limit). let yes = under_yes at limit l in under_yes at nearer (omega arith) ∙ sym yes)
    (λ (l : limit ≤ at). under_no at nearer (omega arith) ∙ sym (under_no at limit l))
    (lt_or_ge at limit)

-- A nearer limit, where nothing lies between the two: the greatest is the same.
pub below_nearer : (labels : List ℕ) (n limit nearer : ℕ) → greatest_below labels n limit < nearer → nearer ≤ limit
    → greatest_below labels n nearer ≡ greatest_below labels n limit
unfolding greatest_below
below_nearer labels zero limit nearer h le = refl
below_nearer labels (suc n) limit nearer h le =
    rw (under_nearer (word_at labels n) limit nearer (omega arith) le, below_nearer labels n limit nearer (omega arith) le)

-- it goes by the first n labels alone
below_same : (labels labels' : List ℕ) (n limit : ℕ) → ((i : ℕ) → i < n → word_at labels' i ≡ word_at labels i)
    → greatest_below labels' n limit ≡ greatest_below labels n limit
unfolding greatest_below
below_same labels labels' zero limit same = refl
below_same labels labels' (suc n) limit same =
    rw (same n (omega arith), below_same labels labels' n limit (λ i h. same i (omega arith)))

module _ (labels : List ℕ) (limit : ℕ) (bounded : limit ≤ none) where
  -- a new label, which is not bound, changes nothing
  pub below_new_label : (n : ℕ) → (n + 1) * label_size ≤ length labels → greatest_below (set_word labels n none) (n + 1) limit ≡ greatest_below labels n limit
  below_new_label n room =
      rw (
        ← below_step (set_word labels n none) n limit,
        word_at_same labels n none (omega arith) (omega arith),
        under_no none limit bounded,
        below_same labels (set_word labels n none) n limit (λ i h. word_at_other labels n none i (λ e. omega arith)),
      ) (omega arith)

  -- A label that is bound adds its offset to the others.
  pub below_bind : (n l code : ℕ) → l < n → n * label_size ≤ length labels → code < 4294967296 → word_at labels l ≡ none
      → greatest_below (set_word labels l code) n limit ≡ max (under code limit) (greatest_below labels n limit)
  unfolding greatest_below
  below_bind zero l code h room small unbound = absurd (not-suc-le-zero h)
  below_bind (suc n) l code h room small unbound =
      ⊎_elim
      (λ (earlier : l < n).
      rw (word_at_other labels l code n (λ e. omega arith), below_bind n l code earlier (omega arith) small unbound) (omega arith))
      (λ (here : n ≤ l).
      let e : l ≡ n = omega arith in
      let was : under (word_at labels n) limit ≡ 0 = rw (rw e at unbound) (under_no none limit bounded) in
      rw (
        was,
        e,
        word_at_same labels n code (omega arith) small,
        below_same labels (set_word labels l code) n limit (λ i k. word_at_other labels l code i (λ q. omega arith)),
      ) (omega arith))
      (lt_or_ge l n)
