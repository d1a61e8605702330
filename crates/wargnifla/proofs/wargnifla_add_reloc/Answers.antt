-- `wargnifla_add_reloc` meets its contract.
use Rattle.std.proofs.Common.{rules, length, ◌<◌}
use Rattle.wargnifla.specs.Boundary.{counts_size}
use Rattle.wargnifla.proofs.Crossing.{reloc_short, reloc_crosses}
use Rattle.wargnifla.proofs.wargnifla_add_reloc.Goals as goal

pub returns-in_default : goal.returns-in_default
returns-in_default c =
    let a = c.args in
    let short : length c.args.counts.now < counts_size = search rules in
    reloc_short a.labels.now a.offset a.kind a.target a.addend short

pub returns : goal.returns
returns c =
    rw c.answer_of.ensures (reloc_crosses (record {
      long = c.in-Some.ensures.0;
      read = c.in-Some.ensures.1;
      added = c.add_reloc_at_offset-done.ensures;
      written = c.put_counts.ensures;
    }))
