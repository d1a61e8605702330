-- `labels_fit` meets its contract, with an index of the events and without one.
use native.Mathlib.Omega.{arith}
use Rattle.lookup.proofs.Index.{indexed_none}
use Rattle.checks.proofs.entries.labels_fit.Goals as goal

pub each_label_fits-requires-clause-indexed : goal.each_label_fits-requires-clause-indexed
each_label_fits-requires-clause-indexed c = indexed_none _ _ _ _ (omega arith) (omega arith)

pub labels_fit_by-requires-clause-within : goal.labels_fit_by-requires-clause-within
labels_fit_by-requires-clause-within c = (c.requires.events_within, c.pays.ensures (c.if-not-pays.false))

pub labels_fit_by-requires-2-clause-within : goal.labels_fit_by-requires-2-clause-within
labels_fit_by-requires-2-clause-within c = (c.requires.events_within, c.pays.ensures (c.if-not-pays.false))
