-- `entries_fit` meets its contract: the tables are judged one after the other, and the first that does not fit decides.
use mathlib.Core.Path.{sym, ◌∙◌}
use Rattle.seqs.proofs.Booleans.{true_is_not_false}
use Rattle.checks.proofs.SoundEvents.{events_ordered}
use Rattle.checks.proofs.SoundTables.{constants_labelled}
use Rattle.checks.proofs.entries.entries_fit.Goals as goal
use Rattle.checks.proofs.entries.entries_fit.Goals.{then-refs_fit, else-refs_fit}

pub labels_fit-requires-clause-ordered : goal.labels_fit-requires-clause-ordered
labels_fit-requires-clause-ordered c = events_ordered _ _ _ _ _ (sym c.events_fit.ensures ∙ c.if-events_fit.true)

pub order_fits-requires-clause-labelled : goal.order_fits-requires-clause-labelled
order_fits-requires-clause-labelled c =
    let is = c.if-constants_fit.true in
    elim c.if-refs_fit.branch [
      | then-refs_fit w ↦ constants_labelled _ _ _ c.requires.constants_room (sym w.constants_fit.ensures ∙ sym w.value-is ∙ is)
      | else-refs_fit w ↦ absurd (true_is_not_false (sym is ∙ w.value-is ∙ w.if-refs_fit.false))
    ]
