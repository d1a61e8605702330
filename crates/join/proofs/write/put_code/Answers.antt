-- `put_code` meets its contract: the zeros, then the code.
use Rattle.std.proofs.Common.{◌∙◌}
use Rattle.join.proofs.Writing.{code_put}
use Rattle.join.proofs.write.put_code.Goals as goal

pub returns : goal.returns
returns c =
    let a = c.args in
    c.copy_run.ensures
    ∙ code_put a.output.now a.code.now a.placed.piece a.placed.cursor c.base-base.result c.base-base.ensures.0 c.requires.code_in
    (rw (← c.base-base.ensures.0) at c.requires.output_within) _ (c.fill.ensures.after (λ y e. e))
