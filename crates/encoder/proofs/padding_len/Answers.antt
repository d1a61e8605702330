-- `padding_len` meets its contract: by a mask where the multiple is a power of two; else the two cases of `padding_length`, an offset at a multiple and one
-- past it.
use Rattle.std.proofs.Common.{sym, mod-lt, arith}
use Rattle.encoder.specs.Padding.{padding_length}
use Rattle.encoder.proofs.Padding.{padding_none, padding_some, padding_wrapped}
use Rattle.encoder.proofs.Powers.{power_of_two}
use Rattle.encoder.proofs.padding_len.Goals as goal

pub returns-then-align_to-eq0 : goal.returns-then-align_to-eq0
unfolding padding_length
returns-then-align_to-eq0 c = rw c.if-align_to-eq0.true

pub returns-then-align_to-mask-eq0 : goal.returns-then-align_to-mask-eq0
returns-then-align_to-mask-eq0 c =
    let a = c.args in
    let power = power_of_two 32 a.align_to (omega arith) (omega arith) c.if-align_to-mask-eq0.true in
    padding_wrapped a.offset a.align_to c.wrapping_neg.result (omega arith) (omega arith) c.wrapping_neg.ensures power

pub returns-then-past-eq0 : goal.returns-then-past-eq0
returns-then-past-eq0 c =
    let a = c.args in
    sym (padding_none a.offset a.align_to (omega arith) c.if-past-eq0.true)

pub overflow_sub-result : goal.overflow_sub-result
overflow_sub-result c =
    omega (arith, mod-lt c.args.offset {m = c.args.align_to} (omega arith))

pub returns : goal.returns
returns c =
    let a = c.args in
    sym (padding_some a.offset a.align_to (omega arith) (omega arith))
