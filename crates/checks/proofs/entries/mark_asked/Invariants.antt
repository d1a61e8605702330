-- `mark_asked` meets its contract: after i turns the first i constants and their labels are marked.
use mathlib.Core.Path.{◌≡◌}
use lib.ListN.{length}
use Rattle.checks.specs.steps.Handed.{Marking, new_at}
use Rattle.seqs.proofs.Scans.{AllPassed}
use Rattle.checks.proofs.entries.mark_asked.Given as goal

abbrev pub invariant-loop-i : goal.invariant-loop-i
invariant-loop-i l = AllPassed (new_at l.asked l.constants l.known) l.n l.i × Marking l.asked l.constants l.known l.i l.seen l.taken × (length l.seen ≡ length l.initial.seen) × (length l.taken ≡ length l.initial.taken)
