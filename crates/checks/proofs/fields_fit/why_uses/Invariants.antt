-- `why_uses` meets its contract: all the uses passed reach.
use Rattle.checks.specs.steps.Fields.{why_unreached}
use Rattle.seqs.proofs.Scans.{NoneRefused}
use Rattle.checks.proofs.fields_fit.why_uses.Given as goal

abbrev pub invariant-loop-i : goal.invariant-loop-i
invariant-loop-i l = NoneRefused (why_unreached l.uses l.labels l.len) l.n l.i
