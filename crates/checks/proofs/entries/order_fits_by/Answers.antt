-- `order_fits_by` meets its contract: what is marked is what is asked for.
use mathlib.Core.Path.{sym, ◌∙◌}
use Rattle.checks.proofs.Marking.{order_fails, order_holds}
use Rattle.checks.proofs.entries.order_fits_by.Goals as goal

pub returns-else-mark_asked : goal.returns-else-mark_asked
returns-else-mark_asked c =
    c.if-mark_asked.false ∙ order_fails _ _ _ _ (sym c.mark_asked.ensures.value ∙ c.if-mark_asked.false)

pub returns-then-mark_asked : goal.returns-then-mark_asked
returns-then-mark_asked c =
    let held = c.if-mark_asked.true in
    let marked = c.mark_asked.ensures in
    rw c.is_each_marked.ensures (order_holds _ _ _ _ (marked.marking held) (sym marked.value ∙ held))
