-- `get_label_for_constant` meets its contract: the constant is known, so its label stands in the table.
use Rattle.std.proofs.Common.{sym, ◌∙◌, arith}
use Rattle.buffer.proofs.Answered.{past, down}
use Rattle.seqs.proofs.Picking.{yes_eq, no_eq}
use Rattle.buffer.specs.Calls.{constant_label}
use Rattle.buffer.proofs.Accepted.{constant_label_accepted}
use Rattle.buffer.proofs.CodeBuffer.get_label_for_constant.Goals as goal

pub returns-in-Err : goal.returns-in-Err
unfolding constant_label
returns-in-Err c =
    rw (c.make_none.ensures, c.in-Err.ensures) (sym (down _ _ c.in-Err.why c.in-Err.ensures))

pub word_at-held-requires : goal.word_at-held-requires
word_at-held-requires c =
    omega (arith, constant_label_accepted (sym c.in_default.ensures))

pub returns-then-held : goal.returns-then-held
unfolding constant_label
returns-then-held c =
    rw (← c.word_at-held.ensures) (sym (past _ _ c.in_default.ensures ∙ no_eq _ _ _ _ c.if-held.true))

pub returns : goal.returns
unfolding constant_label
returns c =
    c.ask_first.ensures ∙ sym (past _ _ c.in_default.ensures ∙ yes_eq _ _ _ _ (sym c.word_at-held.ensures ∙ c.if-held.false))
