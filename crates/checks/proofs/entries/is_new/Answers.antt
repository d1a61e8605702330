-- `is_new` meets its contract: what is not marked is new.
use native.Mathlib.Omega.{arith}
use mathlib.Core.Path.{sym, ◌∙◌}
use Rattle.checks.proofs.Marking.{new_unknown, new_unlabelled, new_marked}
use Rattle.checks.proofs.entries.is_new.Goals as goal

pub returns-then-known-constant : goal.returns-then-known-constant
returns-then-known-constant c =
    new_unknown _ _ _ _ (rw c.word_at-constant.ensures at c.if-known-constant.true)

pub returns-then-label : goal.returns-then-label
returns-then-label c =
    new_unlabelled _ _ _ _ (sym (rw c.word_at-constant.ensures at c.label_of-label.ensures) ∙ c.if-label.true)

pub bounds-taken-label : goal.bounds-taken-label
bounds-taken-label c =
    let a = c.requires in
    let label = rw c.word_at-constant.ensures at c.label_of-label.ensures in
    let known = a.marking.labelled.label _ (rw c.word_at-constant.ensures at c.if-known-constant.false) (λ e. c.if-label.false (label ∙ e)) in
    omega (arith, label, known)

pub returns-then-not-seen-constant : goal.returns-then-not-seen-constant
returns-then-not-seen-constant c =
    let constant = c.word_at-constant.ensures in
    let label = rw constant at c.label_of-label.ensures in
    let new = new_marked c.args.asked.now c.requires.marking (rw constant at c.if-known-constant.false) (λ e. c.if-label.false (label ∙ e)) in
    rw label (rw (rw constant at c.if-not-seen-constant.true) at new)

pub returns-else-not-seen-constant : goal.returns-else-not-seen-constant
returns-else-not-seen-constant c =
    let constant = c.word_at-constant.ensures in
    let label = rw constant at c.label_of-label.ensures in
    let new = new_marked c.args.asked.now c.requires.marking (rw constant at c.if-known-constant.false) (λ e. c.if-label.false (label ∙ e)) in
    rw c.if-not-seen-constant.false (rw (rw constant at c.if-not-seen-constant.false) at new)
