-- `call` meets its contract, kind by kind.
use Rattle.std.proofs.Common.{sym, ◌∙◌, ap, arith}
use Rattle.sheet_form.specs.Kinds.{code_of}
use Rattle.sheet.proofs.Calling.{as_word, counted_bytes, as_default, as_most, as_signed, bytes_called, label_called, bind_called, align_called, use_called, ref_called, jump_called, constant_called, constant_label_called, relocation_called}
use Rattle.sheet.proofs.calls.call.Goals as goal

pub returns-in-Bytes : goal.returns-in-Bytes
returns-in-Bytes c = bytes_called _ _ _ _ _ _ _ _ _ _ _ (ap code_of c.in-Bytes.is) (counted_bytes _ _ c.requires.0 (rw c.word_at-first.ensures at c.min.ensures)) c.put_bytes.ensures

pub returns-in-NewLabel : goal.returns-in-NewLabel
returns-in-NewLabel c = rw (c.recorded.ensures.same, c.recorded.ensures.answered) (label_called _ _ _ _ _ _ _ _ _ _ _ (ap code_of c.in-NewLabel.is) c.get_label.ensures)

pub returns-in-Bind : goal.returns-in-Bind
returns-in-Bind c = bind_called _ _ _ _ _ _ _ _ _ _ _ (ap code_of c.in-Bind.is) (as_word _ _ 0 c.word_at-first.ensures (omega arith)) c.try_bind_label.ensures

pub returns-in-Align : goal.returns-in-Align
returns-in-Align c = align_called _ _ _ _ _ _ _ _ _ _ _ (ap code_of c.in-Align.is) (as_word _ _ 0 c.word_at-first.ensures (omega arith)) (as_default _ (sym c.word_at-second.ensures ∙ c.if-second-eq0.true)) c.try_align_to.ensures

pub returns-in-Align-2 : goal.returns-in-Align-2
returns-in-Align-2 c = align_called _ _ _ _ _ _ _ _ _ _ _ (ap code_of c.in-Align-2.is) (as_word _ _ 0 c.word_at-first.ensures (omega arith)) (as_most _ _ c.word_at-second.ensures c.if-second-eq0.false (omega arith)) c.try_align_to_within.ensures

pub returns-in-Use : goal.returns-in-Use
returns-in-Use c = use_called _ _ _ _ _ _ _ _ _ _ _ (ap code_of c.in-Use.is) (as_word _ _ 0 c.word_at-first.ensures (omega arith)) (as_word _ _ 1 c.word_at-second.ensures (omega arith)) (as_word _ _ 2 c.word_at-third.ensures (omega arith)) c.use_label_at_offset.ensures

pub returns-in-Ref : goal.returns-in-Ref
returns-in-Ref c = ref_called _ _ _ _ _ _ _ _ _ _ _ (ap code_of c.in-Ref.is) (as_word _ _ 0 c.word_at-first.ensures (omega arith)) (as_word _ _ 1 c.word_at-second.ensures (omega arith)) (as_word _ _ 2 c.word_at-third.ensures (omega arith)) (as_word _ _ 3 c.word_at-fourth.ensures (omega arith)) c.record_label_ref.ensures

pub returns-in-Jump : goal.returns-in-Jump
returns-in-Jump c = jump_called _ _ _ _ _ _ _ _ _ _ _ (ap code_of c.in-Jump.is) (as_word _ _ 0 c.word_at-first.ensures (omega arith)) (as_word _ _ 1 c.word_at-second.ensures (omega arith)) (as_word _ _ 2 c.word_at-third.ensures (omega arith)) (as_word _ _ 3 c.word_at-fourth.ensures (omega arith)) c.record_jump.ensures

pub returns-in-Constant : goal.returns-in-Constant
returns-in-Constant c = rw (c.recorded-in-Constant.ensures.same, c.recorded-in-Constant.ensures.answered) (constant_called _ _ _ _ _ _ _ _ _ _ _ (ap code_of c.in-Constant.is) (counted_bytes _ _ c.requires.0 (rw c.word_at-first.ensures at c.min.ensures)) c.add_constant.ensures)

pub returns-in-ConstantLabel : goal.returns-in-ConstantLabel
returns-in-ConstantLabel c = rw (c.recorded-in-ConstantLabel.ensures.same, c.recorded-in-ConstantLabel.ensures.answered) (constant_label_called _ _ _ _ _ _ _ _ _ _ _ (ap code_of c.in-ConstantLabel.is) (as_word _ _ 0 c.word_at-first.ensures (omega arith)) c.get_label_for_constant.ensures)

pub returns-in-Relocation : goal.returns-in-Relocation
returns-in-Relocation c = relocation_called _ _ _ _ _ _ _ _ _ _ _ (ap code_of c.in-Relocation.is) (as_word _ _ 0 c.word_at-first.ensures (omega arith)) (as_word _ _ 1 c.word_at-second.ensures (omega arith)) (as_word _ _ 2 c.word_at-third.ensures (omega arith)) (as_signed _ _ _ 3 c.sign_extend_32-addend.ensures c.word_at-fourth.ensures (omega arith)) c.add_reloc_at_offset.ensures
