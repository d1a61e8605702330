-- `why_no_relas` meets its contract: none of the entries passed is refused.
use Rattle.std.proofs.Common.{rules}
use Rattle.refusals.proofs.Chains.{entries_refused, refused_entry}
use Rattle.elf.specs.Elf.{why_no_relas}
use Rattle.elf.proofs.write.why_no_relas.Goals as goal

pub loop-i-init : goal.loop-i-init
loop-i-init c = search entries_refused

pub returns-in_err-why_no_rela : goal.returns-in_err-why_no_rela
unfolding why_no_relas
returns-in_err-why_no_rela c =
    refused_entry c.in_err-why_no_rela.field-0.0 c.loop-i.invariant c.loop-i-test.true (search rules) c.in_err-why_no_rela.ensures

pub loop-i-preserved : goal.loop-i-preserved
loop-i-preserved c = search (rules, entries_refused)

pub returns : goal.returns
unfolding why_no_relas
returns c = search entries_refused
