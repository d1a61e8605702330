-- `not_joined` meets its contract: each part in its order.
use Rattle.std.proofs.Common.{rules}
use Rattle.refusals.proofs.Chains.{chains}
use Rattle.join.specs.Join.{why_not_joined}
use Rattle.join.proofs.why.not_joined.Goals as goal

pub returns-in_err-unfit : goal.returns-in_err-unfit
unfolding why_not_joined
returns-in_err-unfit c = search (rules, chains)

pub returns-in_err-undefined : goal.returns-in_err-undefined
unfolding why_not_joined
returns-in_err-undefined c = search (rules, chains)

pub returns : goal.returns
unfolding why_not_joined
returns c = search (rules, chains)
