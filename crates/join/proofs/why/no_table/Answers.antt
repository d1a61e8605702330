-- `no_table` meets its contract: 11.
use Rattle.std.proofs.Common.{rules}
use Rattle.seqs.proofs.Picking.{picks}
use Rattle.join.specs.Join.{why_no_table}
use Rattle.join.proofs.Fits.{unfits}
use Rattle.join.proofs.why.no_table.Goals.{then-joined_labels-sum-via-then-joined_labels-sum, then-joined_labels-sum-via-else-joined_labels-sum+then-joined_relocs-count_remaining}
use Rattle.join.proofs.why.no_table.Goals as goal

pub sum-sum-requires-clause-in_bound : goal.sum-sum-requires-clause-in_bound
sum-sum-requires-clause-in_bound c = search (rules, unfits)

pub sum-sum-requires-clause-pieces_fit : goal.sum-sum-requires-clause-pieces_fit
sum-sum-requires-clause-pieces_fit c = search (rules, unfits)

pub count_remaining-requires : goal.count_remaining-requires
count_remaining-requires c = search (rules, unfits)

pub returns-then-joined_labels-sum : goal.returns-then-joined_labels-sum
unfolding why_no_table
returns-then-joined_labels-sum c =
    elim c.then-joined_labels-sum.branch [ then-joined_labels-sum-via-then-joined_labels-sum w ↦ search (rules, picks) | then-joined_labels-sum-via-else-joined_labels-sum+then-joined_relocs-count_remaining w ↦ search (rules, picks) ]

pub returns : goal.returns
unfolding why_no_table
returns c = search (rules, picks)
