-- `try_bind_label` meets its contract: where it is not turned down, the tables have room for what is counted of them.
use Rattle.std.proofs.Common.{refl, sym, arith}
use Rattle.buffer.proofs.Answered.{past, is_past, is_down}
use Rattle.seqs.proofs.Picking.{no_eq}
use Rattle.buffer.specs.Calls.{bind_label}
use Rattle.buffer.proofs.Accepted.{bind_accepted, namers_fit_lem}
use Rattle.buffer.proofs.CodeBuffer.try_bind_label.Goals as goal

pub open_once_bound-requires : goal.open_once_bound-requires
open_once_bound-requires c =
    let a = c.args in
    let f = bind_accepted (sym (is_past _ c.if-is_ok.ensures.value c.why_not_bind-answer.ensures)) in
    record { namers_fit = namers_fit_lem a.events.now a.uses.now a.refs.now a.relocs.now f.namers; in_range = omega (arith, f.known, f.room, f.few) }

pub put_word-requires : goal.put_word-requires
put_word-requires c =
    let f = bind_accepted (sym (is_past _ c.if-is_ok.ensures.value c.why_not_bind-answer.ensures)) in
    omega (arith, f.known, f.room)

pub returns-then-is_ok : goal.returns-then-is_ok
unfolding bind_label
returns-then-is_ok c =
    let none = is_past _ c.if-is_ok.ensures.value c.why_not_bind-answer.ensures in
    rw (c.put_word.ensures, c.open_once_bound.ensures, c.why_not_bind-answer.ensures, ← none) (sym (past _ _ refl))

pub returns-else-is_ok : goal.returns-else-is_ok
unfolding bind_label
returns-else-is_ok c =
    rw c.why_not_bind-answer.ensures (sym (no_eq _ 0 _ _ (is_down _ c.if-is_ok.ensures.value c.why_not_bind-answer.ensures)))
