-- `padding_within` meets its contract: what is needed, or nothing.
use Rattle.std.proofs.Common.{sym, ◌∙◌, arith}
use Rattle.encoder.proofs.Padding.{within_needed, within_none}
use Rattle.encoder.proofs.padding_within.Goals as goal

pub returns-then-needed-most : goal.returns-then-needed-most
returns-then-needed-most c =
    let a = c.args in
    c.padding_len-needed.ensures
    ∙ sym (within_needed a.offset a.align_to a.most (omega (arith, c.padding_len-needed.ensures)))

pub returns-else-needed-most : goal.returns-else-needed-most
returns-else-needed-most c =
    let a = c.args in
    sym (within_none a.offset a.align_to a.most (omega (arith, c.padding_len-needed.ensures)))
