-- `write_relas` meets its contract: a refusal, or the entries.
use Rattle.std.proofs.Common.{sym, ◌≡◌, refl, rules, Err}
use Rattle.refusals.proofs.Variants.{number_not_0}
use Rattle.elf.proofs.Answers.{write_refused, write_done, write_passed}
use Rattle.elf.proofs.write_relas.Goals as goal

pub returns-in_err-why_not_written : goal.returns-in_err-why_not_written
returns-in_err-why_not_written c =
    let told : c.from_residual.result ≡ Err c.in_err-why_not_written.field-0.0 = search rules in
    let a = c.args in
    rw told (write_refused a.code a.labels.now a.relocs.now a.section a.output.now _ c.in_err-why_not_written.ensures (number_not_0 _))

pub put_relas-requires-clause-output_within : goal.put_relas-requires-clause-output_within
put_relas-requires-clause-output_within c =
    (write_passed _ _ _ _ (sym c.in_ok-why_not_written.ensures)).output

pub put_relas-requires-clause-relocs_within : goal.put_relas-requires-clause-relocs_within
put_relas-requires-clause-relocs_within c =
    (write_passed _ _ _ _ (sym c.in_ok-why_not_written.ensures)).fit.room

pub put_relas-requires-clause-targets_named : goal.put_relas-requires-clause-targets_named
put_relas-requires-clause-targets_named c =
    (write_passed _ _ _ _ (sym c.in_ok-why_not_written.ensures)).fit.named

pub returns : goal.returns
returns c =
    let a = c.args in
    write_done a.code a.labels.now a.relocs.now a.section a.output.now 0 _ c.in_ok-why_not_written.ensures refl c.put_relas.ensures
