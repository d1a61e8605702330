-- `wargnifla_run_sheet` meets its contract.
use Rattle.std.proofs.Common.{rules, length, ◌<◌}
use Rattle.wargnifla.specs.Boundary.{counts_size}
use Rattle.wargnifla.proofs.Crossing.{sheet_short, sheet_crosses}
use Rattle.wargnifla.proofs.wargnifla_run_sheet.Goals as goal

pub returns-in_default : goal.returns-in_default
returns-in_default c =
    let short : length c.args.counts.now < counts_size = search rules in
    sheet_short c.args.sheet.now short

pub returns : goal.returns
returns c =
    rw c.answer_of.ensures (sheet_crosses (record {
      long = c.in-Some.ensures.0;
      read = c.in-Some.ensures.1;
      ran = c.run_sheet-ran.ensures;
      written = c.put_counts.ensures;
    }))
