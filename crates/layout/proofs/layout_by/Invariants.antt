-- `layout_by` meets its contract: a turn lays out one event more.
use Rattle.relax.specs.Events.{event_at}
use Rattle.recording.specs.View.{entries}
use Rattle.layout.specs.steps.Targets.{Kept}
use Rattle.layout.proofs.layout_by.Given as goal

abbrev pub invariant-loop-i : goal.invariant-loop-i
invariant-loop-i g l =
    Kept (goal.F-post g l.kept) l.initial.segments l.segments (entries (event_at l.events) l.n) l.long l.i l.last.old_end l.last.new_end
