-- `order_fits` meets its contract: without marks, with a few and with many.
use Rattle.buffer.specs.Tables.{most_entries}
use Rattle.checks.specs.steps.Handed.{few_marks}
use Rattle.checks.proofs.Marking.{order_unasked, labelled_more}
use Rattle.checks.proofs.entries.order_fits.Goals as goal

pub returns-then-n-eq0 : goal.returns-then-n-eq0
returns-then-n-eq0 c =
    rw c.is_each_unlabelled.ensures (order_unasked _ _ _ _ c.if-n-eq0.true)

pub order_fits_with-requires-clause-labelled : goal.order_fits_with-requires-clause-labelled
order_fits_with-requires-clause-labelled c = labelled_more few_marks c.requires.labelled c.if-labels-le-FEW_MARKS.true

pub order_fits_with-requires-2-clause-labelled : goal.order_fits_with-requires-2-clause-labelled
order_fits_with-requires-2-clause-labelled c = labelled_more most_entries c.requires.labelled c.requires.within.2
