-- `why_no_use` meets its contract: its tests are those of `why_use`, in order.
use Rattle.std.proofs.Common.{rules, ◌≡◌, Err}
use Rattle.seqs.proofs.Picking.{picks}
use Rattle.refusals.proofs.Chains.{chains, refused_first}
use Rattle.buffer.specs.Refusals.{why_use}
use Rattle.buffer.proofs.CodeBuffer.why_no_use.Goals as goal

pub returns-in_err-standing : goal.returns-in_err-standing
unfolding why_use
returns-in_err-standing c =
    let told : c.from_residual.result ≡ Err c.in_err-standing.field-0.0 = search rules in
    refused_first _ _ told (search rules)

pub returns-then-code-eq-UNSUPPORTED_CODE : goal.returns-then-code-eq-UNSUPPORTED_CODE
unfolding why_use
returns-then-code-eq-UNSUPPORTED_CODE c = search (rules, chains, picks)

pub returns-then-is_foreign : goal.returns-then-is_foreign
unfolding why_use
returns-then-is_foreign c = search (rules, chains, picks)

pub returns-then-self-label : goal.returns-then-self-label
unfolding why_use
returns-then-self-label c = search (rules, chains, picks)

pub returns-then-room-n : goal.returns-then-room-n
unfolding why_use
returns-then-room-n c = search (rules, chains, picks)

pub returns : goal.returns
unfolding why_use
returns c = search (rules, chains, picks)
