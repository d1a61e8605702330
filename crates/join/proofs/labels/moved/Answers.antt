-- `moved` meets its contract.
use Rattle.std.proofs.Common.{rules}
use Rattle.seqs.proofs.Picking.{picks}
use Rattle.join.proofs.labels.moved.Goals as goal

pub returns-then-offset-eq-NONE : goal.returns-then-offset-eq-NONE
returns-then-offset-eq-NONE c = search (rules, picks)

pub returns-else-offset-eq-NONE : goal.returns-else-offset-eq-NONE
returns-else-offset-eq-NONE c = search (rules, picks)
