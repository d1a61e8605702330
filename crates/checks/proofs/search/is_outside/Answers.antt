-- `is_outside` meets its contract: the empty piece at the offset is clear of the events.
use Rattle.lookup.proofs.Index.{narrowed_around}
use Rattle.checks.proofs.Clear.{outside_clear, halved_around}
use Rattle.checks.proofs.search.is_outside.Goals as goal

pub clear_among-requires : goal.clear_among-requires
clear_among-requires c =
    record { events_within = c.requires.events_within; ordered = c.requires.ordered; halved = halved_around (narrowed_around c.args.offset c.requires.indexed c.narrow-span.ensures) }

pub returns : goal.returns
returns c = rw c.clear_among.ensures (outside_clear _ _ _)
