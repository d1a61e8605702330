-- `order_fits_with` meets its contract: there is a mark for each constant and each label.
use Rattle.checks.proofs.Marking.{marking_blank}
use Rattle.checks.proofs.entries.order_fits_with.Goals as goal

pub order_fits_by-requires-clause-marking : goal.order_fits_by-requires-clause-marking
order_fits_by-requires-clause-marking g c = marking_blank _ _ c.requires.within.1 c.requires.labelled
