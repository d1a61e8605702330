-- `lengthen` meets its contract: a turn scans one event more.
use Rattle.layout.specs.steps.Targets.{missed}
use Rattle.layout.proofs.Scan.{Scanned}
use Rattle.layout.proofs.lengthen.Given as goal

abbrev pub invariant-loop-i : goal.invariant-loop-i
invariant-loop-i l = Scanned (missed l.segments l.events l.initial.long l.n) l.initial.long l.i l.long l.grew
