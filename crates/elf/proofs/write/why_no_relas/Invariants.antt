-- `why_no_relas` meets its contract: none of the entries passed is refused.
use Rattle.std.proofs.Common.{ℕ}
use Rattle.seqs.proofs.Scans.{NoneRefused}
use Rattle.recording.specs.View.{reloc_at}
use Rattle.elf.specs.Elf.{why_no_rela}
use Rattle.elf.proofs.write.why_no_relas.Given as goal

abbrev pub invariant-loop-i : goal.invariant-loop-i
invariant-loop-i l = NoneRefused (λ (j : ℕ). why_no_rela l.arch l.labels (reloc_at l.relocs j)) l.n l.i
