-- `index_events` meets its contract: after i turns the first i events are marked.
use mathlib.Core.Path.{◌≡◌}
use Prim.Native.Nat.{◌≤◌}
use lib.ListN.{length}
use Rattle.recording.specs.Sound.{start_at}
use Rattle.lookup.specs.steps.Index.{Filled}
use Rattle.checks.proofs.search.index_events.Given as goal

abbrev pub invariant-loop-i : goal.invariant-loop-i
invariant-loop-i l = Filled l.index (start_at l.events) l.n l.shift l.i l.next × (l.i ≤ l.n) × (length l.index ≡ length l.initial.index)
