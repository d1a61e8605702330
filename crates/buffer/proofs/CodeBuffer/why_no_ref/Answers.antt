-- `why_no_ref` meets its contract: its tests are those of `why_ref`, in order.
use Rattle.std.proofs.Common.{rules, ◌≡◌, Err}
use Rattle.seqs.proofs.Picking.{picks}
use Rattle.refusals.proofs.Chains.{chains, refused_first}
use Rattle.buffer.specs.Refusals.{why_ref}
use Rattle.buffer.proofs.CodeBuffer.why_no_ref.Goals as goal

pub returns-in_err-standing : goal.returns-in_err-standing
unfolding why_ref
returns-in_err-standing c =
    let told : c.from_residual.result ≡ Err c.in_err-standing.field-0.0 = search rules in
    refused_first _ _ told (search rules)

pub returns-then-not-keeps_events : goal.returns-then-not-keeps_events
unfolding why_ref
returns-then-not-keeps_events c = search (rules, chains, picks)

pub returns-then-is_foreign : goal.returns-then-is_foreign
unfolding why_ref
returns-then-is_foreign c = search (rules, chains, picks)

pub returns-then-self-label : goal.returns-then-self-label
unfolding why_ref
returns-then-self-label c = search (rules, chains, picks)

pub returns-then-room-n : goal.returns-then-room-n
unfolding why_ref
returns-then-room-n c = search (rules, chains, picks)

pub returns : goal.returns
unfolding why_ref
returns c = search (rules, chains, picks)
