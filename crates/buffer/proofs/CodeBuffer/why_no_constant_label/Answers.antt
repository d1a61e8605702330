-- `why_no_constant_label` meets its contract: its tests are those of `why_constant_label`, in order.
use Rattle.std.proofs.Common.{rules, ◌≡◌, Err}
use Rattle.seqs.proofs.Picking.{picks}
use Rattle.refusals.proofs.Chains.{chains, refused_first}
use Rattle.buffer.specs.Refusals.{why_constant_label}
use Rattle.buffer.proofs.CodeBuffer.why_no_constant_label.Goals as goal

pub returns-in_err-standing : goal.returns-in_err-standing
unfolding why_constant_label
returns-in_err-standing c =
    let told : c.from_residual.result ≡ Err c.in_err-standing.field-0.0 = search rules in
    refused_first _ _ told (search rules)

pub returns-then-self-constant : goal.returns-then-self-constant
unfolding why_constant_label
returns-then-self-constant c = search (rules, chains, picks)

pub returns : goal.returns
unfolding why_constant_label
returns c = search (rules, chains, picks)
