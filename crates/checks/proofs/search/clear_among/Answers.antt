-- `clear_among` meets its contract: the last event that starts before the end decides.
use mathlib.Core.Path.{◌∙◌}
use borrow.Author.Tests.{eq-eqb}
use native.Mathlib.Omega.{arith}
use Rattle.checks.proofs.Clear.{clear_none, clear_last}
use Rattle.checks.proofs.search.clear_among.Goals as goal

pub returns-then-k-eq0 : goal.returns-then-k-eq0
returns-then-k-eq0 c =
    eq-eqb _ 0 c.if-k-eq0.true ∙ clear_none _ _ _ _ _ c.if-k-eq0.true c.events_before-k.ensures

pub returns-else-k-eq0 : goal.returns-else-k-eq0
returns-else-k-eq0 c =
    rw c.end_at.ensures (clear_last _ _ _ _ _ (omega arith) c.requires.ordered c.events_before-k.ensures)
