-- `labels_fit_by` meets its contract.
use Prim.Native.Nat.{ℕ}
use lib.ListN.{length-replicate}
use Rattle.checks.proofs.entries.labels_fit_by.Goals as goal

pub index_events-requires-clause-within : goal.index_events-requires-clause-within
index_events-requires-clause-within g c =
    let r = c.requires in
    rw (length-replicate {A = ℕ} g.row.SIZE 0) (r.room.0, c.shift_for-shift.ensures.small, r.within.1, r.within.0)
