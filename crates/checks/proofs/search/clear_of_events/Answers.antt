-- `clear_of_events` meets its contract: before the search nothing is known.
use Rattle.checks.proofs.Clear.{halved_first}
use Rattle.checks.proofs.search.clear_of_events.Goals as goal

pub clear_among-requires : goal.clear_among-requires
clear_among-requires c = record { events_within = c.requires.events_within; ordered = c.requires.ordered; halved = halved_first _ _ _ }
