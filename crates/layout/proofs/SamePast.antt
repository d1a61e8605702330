-- Tables that are the same past their first entries.
use mathlib.Core.Path.{◌≡◌, refl, sym, ◌∙◌}
use mathlib.Core.Logic.{⊎_elim}
use mathlib.Core.List.{List}
use Prim.Native.Nat.{ℕ, ◌+◌, ◌≤◌, ◌<◌}
use native.Mathlib.Omega.{arith}
use lib.ListN.{length, get_or, set, length-set}
use lib.Seq.{ext_get_or, get_or-set_other}
use Rattle.seqs.specs.Over.{over}
use Rattle.seqs.proofs.Numbers.{lt_or_ge}
use Rattle.seqs.proofs.Overwrites.{length_over, get_d_over_in, get_d_over_after}
use Rattle.relax.specs.declared.Segment.{Segment}
use Rattle.layout.specs.steps.Layout.{zero_segment}
use Rattle.layout.specs.steps.Targets.{SamePast}

pub same_past_none : (k : ℕ) (ss : List Segment) → SamePast k ss ss
same_past_none k ss = record { sized = refl; same = λ i h. refl }

pub same_past_more : {k j : ℕ} {before ss ss' : List Segment} → SamePast k before ss → SamePast j ss ss' → j ≤ k → SamePast k before ss'
same_past_more p q h = record { sized = q.sized ∙ p.sized; same = λ i l. q.same i (omega arith) ∙ p.same i l }

pub same_past_set : (k : ℕ) (ss : List Segment) (i : ℕ) (s : Segment) → i < k → SamePast k ss (set ss i s)
same_past_set k ss i s h = record { sized = length-set ss i s; same = λ j l. get_or-set_other ss i j s zero_segment (λ e. omega (arith, e)) }

pub same_past_over : (k : ℕ) (ss : List Segment) (at : ℕ) (ys : List Segment) → at + length ys ≤ k → SamePast k ss (over ss at ys)
same_past_over k ss at ys h = record { sized = length_over ss at ys; same = λ j l. get_d_over_after ss at ys j zero_segment (omega arith) }

pub same_past_grow : {k j : ℕ} {before ss : List Segment} → SamePast k before ss → k ≤ j → SamePast j before ss
same_past_grow p h = record { sized = p.sized; same = λ i l. p.same i (omega arith) }

-- A table that has these entries first was written over with them.
pub same_past_is : {k : ℕ} {before ss : List Segment} → SamePast k before ss → (ys : List Segment) → length ys ≡ k → k ≤ length before
    → ((i : ℕ) → i < k → get_or ss i zero_segment ≡ get_or ys i zero_segment) → ss ≡ over before 0 ys
same_past_is {k} {before} {ss} q ys h room each =
    ext_get_or zero_segment ss (over before 0 ys) (q.sized ∙ sym (length_over before 0 ys))
    (λ i l. ⊎_elim
    (λ lt. let z : 0 + i ≡ i = omega arith in
    let here : i < length ys = omega (arith, h) in
    let there : 0 + i < length before = omega (arith, room) in
    each i lt ∙ sym (rw z at (get_d_over_in before 0 ys i zero_segment here there)))
    (λ ge. q.same i ge ∙ sym (get_d_over_after before 0 ys i zero_segment (omega arith)))
    (lt_or_ge i k))

-- What is written over all of these entries leaves the same table.
pub over_same_past : {k : ℕ} {before ss : List Segment} → SamePast k before ss → (ys : List Segment) → length ys ≡ k → over ss 0 ys ≡ over before 0 ys
over_same_past {k} {before} {ss} q ys h =
    let size : length (over ss 0 ys) ≡ length (over before 0 ys) = length_over ss 0 ys ∙ (q.sized ∙ sym (length_over before 0 ys)) in
    ext_get_or zero_segment (over ss 0 ys) (over before 0 ys) size
    (λ i l. ⊎_elim
    (λ lt. let z : 0 + i ≡ i = omega arith in
    let here : 0 + i < length ss = omega (arith, length_over ss 0 ys) in
    let there : 0 + i < length before = omega (arith, length_over ss 0 ys, q.sized) in
    rw z at (get_d_over_in ss 0 ys i zero_segment lt here ∙ sym (get_d_over_in before 0 ys i zero_segment lt there)))
    (λ ge. get_d_over_after ss 0 ys i zero_segment (omega arith) ∙ (q.same i (omega arith) ∙ sym (get_d_over_after before 0 ys i zero_segment (omega arith))))
    (lt_or_ge i (length ys)))
