-- `emit_events` meets its contract: after i turns the first i events and the runs before them are written, and `old` and `new` are where the layout stands.
use Rattle.std.proofs.Common.{◌≡◌, take}
use Rattle.seqs.specs.Over.{over}
use Rattle.relax.specs.Events.{event_at}
use Rattle.recording.specs.View.{entries}
use Rattle.fresh.specs.steps.Runs.{after, runs_to}
use Rattle.emit.proofs.emit_events.Given as goal

abbrev pub invariant-loop-i : goal.invariant-loop-i
invariant-loop-i l = (after l.i 0 0 (entries (event_at l.events) l.n) l.long ≡ record { old = l.old; new = l.new }) × (l.output ≡ over l.initial.output 0 (runs_to l.i l.arch 0 0 (take l.len l.code) (entries (event_at l.events) l.n) l.long))
