-- `why_no_reloc` meets its contract: its tests are those of `why_reloc`, in order.
use Rattle.std.proofs.Common.{rules, ◌≡◌, Err}
use Rattle.seqs.proofs.Picking.{picks}
use Rattle.refusals.proofs.Chains.{chains, refused_first}
use Rattle.buffer.specs.Refusals.{why_reloc}
use Rattle.buffer.proofs.CodeBuffer.why_no_reloc.Goals as goal

pub returns-in_err-standing : goal.returns-in_err-standing
unfolding why_reloc
returns-in_err-standing c =
    let told : c.from_residual.result ≡ Err c.in_err-standing.field-0.0 = search rules in
    refused_first _ _ told (search rules)

pub returns-then-is_foreign_kind : goal.returns-then-is_foreign_kind
unfolding why_reloc
returns-then-is_foreign_kind c = search (rules, chains, picks)

pub returns-then-not-is_known : goal.returns-then-not-is_known
unfolding why_reloc
returns-then-not-is_known c = search (rules, chains, picks)

pub returns-then-offset-gt-LAST_OFFSET : goal.returns-then-offset-gt-LAST_OFFSET
unfolding why_reloc
returns-then-offset-gt-LAST_OFFSET c = search (rules, chains, picks)

pub returns-then-room-n : goal.returns-then-room-n
unfolding why_reloc
returns-then-room-n c = search (rules, chains, picks)

pub returns : goal.returns
unfolding why_reloc
returns c = search (rules, chains, picks)
