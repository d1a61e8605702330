-- `why_not_align` meets its contract: its tests are those of `why_align`, in order.
use Rattle.std.proofs.Common.{rules, ◌≡◌, Err}
use Rattle.seqs.proofs.Picking.{picks}
use Rattle.refusals.proofs.Chains.{chains, refused_first}
use Rattle.buffer.specs.Refusals.{why_align}
use mathlib.Core.Bool.{◌&&◌}
use lib.Dec.{leb}
use Rattle.std.proofs.Common.{sym, arith}
use Rattle.buffer.specs.Refusals.{standing}
use Rattle.buffer.specs.Tables.{most_entries, most_code}
use Rattle.buffer.proofs.Standing.{counts_fit_lem}
use Rattle.buffer.proofs.CodeBuffer.why_not_align.Goals as goal

pub returns-in_err-standing : goal.returns-in_err-standing
unfolding why_align
returns-in_err-standing c =
    let told : c.from_residual.result ≡ Err c.in_err-standing.field-0.0 = search rules in
    refused_first _ _ told (search rules)

pub returns-then-not-is_alignment : goal.returns-then-not-is_alignment
unfolding why_align
returns-then-not-is_alignment c = search (rules, chains, picks)

pub returns-then-room-n : goal.returns-then-room-n
unfolding why_align
returns-then-room-n c = search (rules, chains, picks)

pub returns-then-lent-at : goal.returns-then-lent-at
unfolding why_align
returns-then-lent-at c = search (rules, chains, picks)

pub returns : goal.returns
unfolding why_align
returns c = search (rules, chains, picks)

pub overflow_sub-lent : goal.overflow_sub-lent
overflow_sub-lent c =
    let a = c.args in
    let stood : 0 ≡ standing a.self (leb a.self.code a.lent && leb a.self.events a.room) (leb a.lent most_code && leb a.room most_entries) = search rules in
    omega (arith, counts_fit_lem a.self a.self.code a.lent a.self.events a.room _ (sym stood))
