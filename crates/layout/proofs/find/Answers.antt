-- `find` meets its contract: the search narrows to where the starts pass the offset.
use Rattle.std.proofs.Common.{rules}
use borrow.Author.Tests.{tests}
use Rattle.layout.proofs.Search.{between_first, between_last}
use Rattle.layout.proofs.find.Goals as goal

pub partition_point-requires-clause-order : goal.partition_point-requires-clause-order
partition_point-requires-clause-order c =
    (between_first c.args.offset c.requires.indexed c.narrow-span.ensures).order

pub returns : goal.returns
returns c =
    between_last c.requires.sorted (between_first _ c.requires.indexed c.narrow-span.ensures) c.partition_point.ensures (λ i b k. search (rules, tests))
