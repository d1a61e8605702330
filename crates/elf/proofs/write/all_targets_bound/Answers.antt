-- `all_targets_bound` meets its contract: `all` asks of each relocation whether its target is bound.
use Rattle.std.proofs.Common.{ℕ, rules}
use borrow.Author.Tests.{tests}
use Rattle.seqs.proofs.Ranges.{all_of_range}
use Rattle.recording.specs.View.{reloc_at}
use Rattle.elf.specs.Elf.{target_bound, all_targets_bound}
use Rattle.elf.proofs.write.all_targets_bound.Goals as goal

pub returns : goal.returns
unfolding all_targets_bound
returns c =
    let a = c.args in
    all_of_range (λ (j : ℕ). target_bound a.labels.now a.count (reloc_at a.relocs.now j).target) a.n c.all.ensures.ran (λ x b q k. search (rules, tests))
