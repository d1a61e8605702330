-- `why_not_jump` meets its contract: its tests are those of `why_jump`, in order.
use Rattle.std.proofs.Common.{rules, ◌≡◌, Err}
use Rattle.seqs.proofs.Picking.{picks}
use Rattle.refusals.proofs.Chains.{chains, refused_first}
use Rattle.buffer.specs.Refusals.{why_jump}
use Prim.Native.Nat.{◌/◌}
use mathlib.Core.Bool.{◌&&◌}
use lib.Dec.{leb}
use lib.ListN.{length}
use Rattle.std.proofs.Common.{sym, arith}
use Rattle.relax.specs.Events.{event_size}
use Rattle.buffer.specs.Refusals.{standing}
use Rattle.buffer.specs.Tables.{most_entries, label_size}
use Rattle.buffer.proofs.Standing.{counts_fit_lem}
use Rattle.buffer.proofs.CodeBuffer.why_not_jump.Goals as goal

pub returns-in_err-standing : goal.returns-in_err-standing
unfolding why_jump
returns-in_err-standing c =
    let told : c.from_residual.result ≡ Err c.in_err-standing.field-0.0 = search rules in
    refused_first _ _ told (search rules)

pub returns-then-self-ne-X64 : goal.returns-then-self-ne-X64
unfolding why_jump
returns-then-self-ne-X64 c = search (rules, chains, picks)

pub returns-then-self-label : goal.returns-then-self-label
unfolding why_jump
returns-then-self-label c = search (rules, chains, picks)

pub returns-then-is_unfit : goal.returns-then-is_unfit
unfolding why_jump
returns-then-is_unfit c = search (rules, chains, picks)

pub returns-then-room-self : goal.returns-then-room-self
unfolding why_jump
returns-then-room-self c = search (rules, chains, picks)

pub returns : goal.returns
unfolding why_jump
returns c = search (rules, chains, picks)

pub is_unfit-requires : goal.is_unfit-requires
is_unfit-requires c =
    let a = c.args in
    let stood : 0 ≡ standing a.self (leb a.self.labels (length a.labels.now / label_size) && leb a.self.events (length a.events.now / event_size)) (leb (length a.labels.now / label_size) most_entries && leb (length a.events.now / event_size) most_entries) = search rules in
    let fit = counts_fit_lem a.self a.self.labels (length a.labels.now / label_size) a.self.events (length a.events.now / event_size) _ (sym stood) in
    (omega arith, omega arith, c.requires)
