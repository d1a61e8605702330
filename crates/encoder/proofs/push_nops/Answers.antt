-- `push_nops` meets its contract: what is left to write at i, written over `pad`, gives the whole padding.
use Rattle.std.proofs.Common.{◌≡◌, ℕ, ◌+◌, ◌-◌, ◌≤◌, List, [], length, get_or, take, drop, sym, refl, ap, ◌∙◌, arith, length-drop, length-take}
use native.Mathlib.Nat.{sub-zero}
use Rattle.seqs.specs.Over.{over}
use Rattle.seqs.proofs.Overwrites.{over_all, over_nil}
use Rattle.encoder.specs.Nops.{form, nops}
use Rattle.encoder.proofs.Forms.{rows, row_form}
use Rattle.encoder.proofs.Nops.{nops_zero, nops_below_9, nops_length, over_form, over_form_to, over_longest_first}
use Rattle.encoder.proofs.push_nops.Goals as goal

-- a row for a part of the slice
fits : (pad row : List ℕ) (i e n : ℕ) → e - i ≡ n → n ≤ 9 → e ≤ length pad → row ≡ get_or rows (n - 1) []
    → (length (take (e - i) (drop i pad)) ≤ 9) × (take (length (take (e - i) (drop i pad))) row ≡ form (length (take (e - i) (drop i pad))))
fits pad row i e n q h k r =
    let l : length (take (e - i) (drop i pad)) ≡ n = simp (length-take, length-drop) (omega arith) in
    (omega arith, rw (l, r) (row_form n h))

pub loop-i-init : goal.loop-i-init
loop-i-init c =
    let pad = c.args.pad.now in
    (omega arith, rw (sub-zero (length pad)) (over_all pad (nops (length pad)) (nops_length (length pad))))

pub push_nop-requires : goal.push_nop-requires
push_nop-requires c =
    let i = c.loop-i.i in
    fits c.loop-i.pad _ i (i + 9) 9 (omega arith) (omega arith) (omega arith) refl

pub loop-i-preserved : goal.loop-i-preserved
loop-i-preserved c =
    let pad = c.loop-i.pad in
    let i = c.loop-i.i in
    let e = over_form pad _ i 9 (omega arith) (omega arith) c.push_nop.ensures in
    (omega arith, rw e (over_longest_first pad i 9 _ (omega arith) (omega arith) c.loop-i.auto.pad ∙ c.loop-i.invariant.1))

pub push_nop-requires-then-i-len : goal.push_nop-requires-then-i-len
push_nop-requires-then-i-len c =
    let i = c.loop-i.i in
    let len = length c.loop-i.pad in
    fits c.loop-i.pad _ i len (len - i) refl (omega arith) (omega arith) (rw c.loop-i.auto.pad refl)

pub returns-then-i-len : goal.returns-then-i-len
returns-then-i-len c =
    let pad = c.loop-i.pad in
    let i = c.loop-i.i in
    let len = length pad in
    over_form_to pad _ i len (omega arith) (omega arith) (omega arith) c.push_nop-then-i-len.ensures
    ∙ (ap (over pad i) (sym (nops_below_9 (len - i) (omega arith))) ∙ rw c.loop-i.auto.pad c.loop-i.invariant.1)

pub returns-else-i-len : goal.returns-else-i-len
returns-else-i-len c =
    let pad = c.loop-i.pad in
    let i = c.loop-i.i in
    let z : length c.args.pad.now - i ≡ 0 = omega arith in
    sym (over_nil pad i) ∙ (rw (z, nops_zero) at c.loop-i.invariant.1)
