-- `why_unfit` meets its contract, test by test.
use Rattle.std.proofs.Common.{rules}
use Rattle.seqs.proofs.Picking.{picks}
use Rattle.elf.specs.Elf.{why_unfit}
use Rattle.elf.proofs.write.why_unfit.Goals as goal

pub returns-then-not-relocs_fit : goal.returns-then-not-relocs_fit
unfolding why_unfit
returns-then-not-relocs_fit c = search (rules, picks)

pub returns-then-not-within_limits : goal.returns-then-not-within_limits
unfolding why_unfit
returns-then-not-within_limits c = search (rules, picks)

pub returns-then-not-has_types : goal.returns-then-not-has_types
unfolding why_unfit
returns-then-not-has_types c = search (rules, picks)

pub returns : goal.returns
unfolding why_unfit
returns c = search (rules, picks)
