-- `events_before` meets its contract: it asks of an event whether it starts before the offset.
use Rattle.std.proofs.Common.{rules}
use borrow.Author.Tests.{tests}
use Rattle.checks.proofs.Clear.{parted_before}
use Rattle.checks.proofs.search.events_before.Goals as goal

pub returns : goal.returns
returns c =
    parted_before _ _ c.requires.ordered c.requires.halved c.partition_point.ensures (λ j b k. search (rules, tests))
