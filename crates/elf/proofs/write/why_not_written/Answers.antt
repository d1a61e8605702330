-- `why_not_written` meets its contract: what is unfit, then entry by entry, then the output.
use Rattle.std.proofs.Common.{rules, sym}
use Rattle.seqs.proofs.Picking.{picks}
use Rattle.refusals.proofs.Chains.{chains}
use Rattle.elf.specs.Elf.{why_not_written}
use Rattle.elf.proofs.Answers.{unfit_passed}
use Rattle.elf.proofs.write.why_not_written.Goals as goal

pub returns-in_err-why_unfit : goal.returns-in_err-why_unfit
unfolding why_not_written
returns-in_err-why_unfit c = search (rules, chains)

pub why_no_relas-requires : goal.why_no_relas-requires
why_no_relas-requires c =
    let fit = unfit_passed _ _ _ (sym c.in_ok-why_unfit.ensures) in
    record { relocs_within = fit.room; targets_named = fit.named }

pub returns-in_err-why_no_relas : goal.returns-in_err-why_no_relas
unfolding why_not_written
returns-in_err-why_no_relas c = search (rules, chains)

pub returns-then-room-n : goal.returns-then-room-n
unfolding why_not_written
returns-then-room-n c = search (rules, chains, picks)

pub returns : goal.returns
unfolding why_not_written
returns c = search (rules, chains, picks)
