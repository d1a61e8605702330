-- `why_uses` meets its contract: all the uses passed reach.
use Rattle.std.proofs.Common.{rules, arith}
use Rattle.refusals.proofs.Chains.{entries_refused, refused_entry}
use Rattle.checks.specs.steps.Fields.{why_uses}
use Rattle.checks.proofs.fields_fit.why_uses.Goals as goal

pub loop-i-init : goal.loop-i-init
loop-i-init c = search entries_refused

pub why_unreached-requires : goal.why_unreached-requires
why_unreached-requires c =
    (omega arith, c.requires.named.known c.loop-i.i (omega arith))

pub returns-in_err-why_unreached : goal.returns-in_err-why_unreached
unfolding why_uses
returns-in_err-why_unreached c =
    refused_entry c.in_err-why_unreached.field-0.0 c.loop-i.invariant c.loop-i-test.true (search rules) c.in_err-why_unreached.ensures

pub loop-i-preserved : goal.loop-i-preserved
loop-i-preserved c = search (rules, entries_refused)

pub returns : goal.returns
unfolding why_uses
returns c = search entries_refused
