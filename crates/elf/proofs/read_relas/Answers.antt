-- `read_relas` meets its contract: a refusal, or the entries.
use Rattle.std.proofs.Common.{sym, ◌≡◌, refl, arith, rules, Err}
use Rattle.refusals.proofs.Variants.{number_not_0}
use Rattle.elf.proofs.Answers.{read_refused, read_done, read_passed}
use Rattle.elf.proofs.read_relas.Goals as goal

pub returns-in_err-why_not_read : goal.returns-in_err-why_not_read
returns-in_err-why_not_read c =
    let told : c.from_residual.result ≡ Err c.in_err-why_not_read.field-0.0 = search rules in
    rw told (read_refused c.args.relas.now c.args.table.now _ c.in_err-why_not_read.ensures (number_not_0 _))

pub put_entries-requires-clause-table_within : goal.put_entries-requires-clause-table_within
put_entries-requires-clause-table_within c =
    let r = read_passed _ _ (sym c.in_ok-why_not_read.ensures) in omega (arith, r.table)

pub returns : goal.returns
returns c = read_done c.args.relas.now c.args.table.now 0 _ c.in_ok-why_not_read.ensures refl c.put_entries.ensures
