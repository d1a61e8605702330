-- `keeps_events` meets its contract: it is the one test.
use mathlib.Core.Path.{refl}
use Rattle.buffer.specs.State.{keeps_events}
use Rattle.buffer.proofs.keeps_events.Goals as goal

pub returns : goal.returns
unfolding keeps_events
returns c = refl
