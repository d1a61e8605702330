-- `moved_target` meets its contract.
use Rattle.std.proofs.Common.{rules}
use Rattle.seqs.proofs.Picking.{picks}
use Rattle.join.proofs.write.moved_target.Goals as goal

pub returns-then-target-lt-LABEL_TARGET : goal.returns-then-target-lt-LABEL_TARGET
returns-then-target-lt-LABEL_TARGET c = search (rules, picks)

pub returns-else-target-lt-LABEL_TARGET : goal.returns-else-target-lt-LABEL_TARGET
returns-else-target-lt-LABEL_TARGET c = search (rules, picks)
