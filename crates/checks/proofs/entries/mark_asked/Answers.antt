-- `mark_asked` meets its contract: after i turns the first i constants and their labels are marked.
use mathlib.Core.Path.{◌≡◌, refl, sym, ◌∙◌}
use Rattle.seqs.proofs.Booleans.{true_is_not_false}
use Rattle.checks.proofs.Marking.{New, marking_next, new_entry}
use native.Mathlib.Omega.{arith}
use lib.ListN.{length-set}
use Rattle.seqs.proofs.Scans.{pass_none, pass_one, pass_fails, pass_all}
use Rattle.checks.proofs.entries.mark_asked.Goals as goal

pub loop-i-init : goal.loop-i-init
loop-i-init c =
    (pass_none _ _, c.requires.marking, refl, refl)

pub returns-then-not-is_new : goal.returns-then-not-is_new
returns-then-not-is_new c =
    let l = c.loop-i in
    record { value = pass_fails l.invariant.0 (omega arith) c.is_new.ensures (rw c.if-not-is_new.true refl); marking = λ e. absurd (true_is_not_false (sym e)) }

pub label_of-label-requires : goal.label_of-label-requires
label_of-label-requires c =
    let new : New c.args.asked.now c.args.constants.now c.args.known c.loop-i.i c.loop-i.seen c.loop-i.taken = new_entry c.loop-i.invariant.1 (sym c.is_new.ensures ∙ c.if-not-is_new.false) in
    omega (arith, new.room, c.word_at-constant.ensures)

pub bounds-seen-constant : goal.bounds-seen-constant
bounds-seen-constant c =
    let new : New c.args.asked.now c.args.constants.now c.args.known c.loop-i.i c.loop-i.seen c.loop-i.taken = new_entry c.loop-i.invariant.1 (sym c.is_new.ensures ∙ c.if-not-is_new.false) in
    omega (arith, new.few, c.word_at-constant.ensures)

pub bounds-taken-label : goal.bounds-taken-label
bounds-taken-label c =
    let new : New c.args.asked.now c.args.constants.now c.args.known c.loop-i.i c.loop-i.seen c.loop-i.taken = new_entry c.loop-i.invariant.1 (sym c.is_new.ensures ∙ c.if-not-is_new.false) in
    let label = rw c.word_at-constant.ensures at c.label_of-label.ensures in
    omega (arith, new.label, label)

pub loop-i-preserved : goal.loop-i-preserved
loop-i-preserved c =
    let new : New c.args.asked.now c.args.constants.now c.args.known c.loop-i.i c.loop-i.seen c.loop-i.taken = new_entry c.loop-i.invariant.1 (sym c.is_new.ensures ∙ c.if-not-is_new.false) in
    let l = c.loop-i in
    let label = rw c.word_at-constant.ensures at c.label_of-label.ensures in (
      pass_one l.invariant.0 (omega arith) c.is_new.ensures (rw c.if-not-is_new.false refl),
      marking_next l.invariant.1 new c.word_at-constant.ensures label,
      simp length-set l.invariant.2,
      simp length-set l.invariant.3,
    )

pub returns : goal.returns
returns c =
    let l = c.loop-i in
    let same : l.i ≡ c.args.n = omega arith in
    record { value = pass_all l.invariant.0 (omega arith); marking = λ e. rw same at l.invariant.1 }
