-- `alignments_before` meets its contract: it asks of an alignment whether it starts before the offset.
use Rattle.std.proofs.Common.{rules}
use borrow.Author.Tests.{tests}
use Rattle.checks.proofs.Clear.{halved_first, pool_ordered, parted_before}
use Rattle.checks.proofs.search.alignments_before.Goals as goal

pub returns : goal.returns
returns c =
    parted_before _ _ (pool_ordered _ _ _ _) (halved_first _ _ _) c.partition_point.ensures (λ j b k. search (rules, tests))
