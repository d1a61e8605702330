-- `push_nop` meets its contract: the row starts with the form, and the copy fills `pad`.
use Rattle.std.proofs.Common.{length, ap, ◌∙◌}
use Rattle.seqs.specs.Over.{over}
use Rattle.seqs.proofs.Overwrites.{over_all}
use Rattle.encoder.specs.Nops.{form}
use Rattle.encoder.proofs.Forms.{form_length}
use Rattle.encoder.proofs.push_nop.Goals as goal

pub returns : goal.returns
returns c =
    let pad = c.args.pad.now in
    let n = length pad in
    c.copy.ensures
    ∙ (ap (over pad 0) c.requires.1 ∙ over_all pad (form n) (form_length n c.requires.0))
