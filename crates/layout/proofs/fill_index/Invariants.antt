-- `fill_index` meets its contract: after i turns the first i starts are marked.
use Rattle.lookup.specs.steps.Index.{Filled}
use Rattle.layout.specs.steps.Layout.{start_at}
use Rattle.layout.proofs.fill_index.Given as goal

abbrev pub invariant-loop-i : goal.invariant-loop-i
invariant-loop-i l = Filled l.index (start_at l.segments) l.n l.shift l.i l.next
