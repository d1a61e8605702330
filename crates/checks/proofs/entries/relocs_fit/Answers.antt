-- `relocs_fit` meets its contract: `all` asks of each relocation whether it fits.
use Rattle.std.proofs.Common.{rules}
use borrow.Author.Tests.{tests}
use Rattle.seqs.proofs.Ranges.{all_of_range}
use Rattle.checks.specs.Entries.{reloc_fits, relocs_fit}
use Rattle.checks.proofs.entries.relocs_fit.Goals as goal

pub returns : goal.returns
unfolding relocs_fit
returns c = all_of_range (reloc_fits c.args.b c.args.relocs.now) c.args.b.relocs c.all.ensures.ran (λ x b q k. search (rules, tests))
