-- `push_nops` meets its contract: what is left to write at i, written over `pad`, gives the whole padding.
use Rattle.std.proofs.Common.{◌≡◌, ◌-◌, ◌≤◌}
use Rattle.seqs.specs.Over.{over}
use Rattle.encoder.specs.Nops.{nops}
use Rattle.encoder.proofs.push_nops.Given as goal

abbrev pub invariant-loop-i : goal.invariant-loop-i
invariant-loop-i l = (l.i ≤ l.len) × (over l.pad l.i (nops (l.len - l.i)) ≡ nops l.len)

abbrev pub decreases-loop-i : goal.decreases-loop-i
decreases-loop-i l = l.len - l.i
