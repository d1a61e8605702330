-- `unfit` meets its contract: 1, 3 and 27.
use Rattle.std.proofs.Common.{rules}
use Rattle.seqs.proofs.Picking.{picks}
use Rattle.join.specs.Join.{why_unfit}
use Rattle.join.proofs.why.unfit.Goals as goal

pub returns-then-not-lent_fits : goal.returns-then-not-lent_fits
unfolding why_unfit
returns-then-not-lent_fits c = search (rules, picks)

pub returns-then-not-within_limits : goal.returns-then-not-within_limits
unfolding why_unfit
returns-then-not-within_limits c = search (rules, picks)

pub returns-then-not-same_arch : goal.returns-then-not-same_arch
unfolding why_unfit
returns-then-not-same_arch c = search (rules, picks)

pub returns : goal.returns
unfolding why_unfit
returns c = search (rules, picks)
