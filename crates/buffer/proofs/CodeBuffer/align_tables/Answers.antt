-- `align_tables` meets its contract: the padding and the event fit where no test refuses, and the part that is padded stands at the old end.
use Rattle.std.proofs.Common.{◌≡◌, sym, arith, Err}
use Rattle.std.proofs.Common.{rules}
use Prim.Native.Nat.{◌+◌, ◌-◌}
use Rattle.buffer.proofs.Answered.{past, down}
use Rattle.buffer.specs.steps.Aligned.{aligned_tables}
use Rattle.buffer.proofs.Accepted.{align_accepted}
use Rattle.buffer.proofs.Appends.{over_padded}
use Rattle.buffer.proofs.CodeBuffer.align_tables.Goals as goal

pub returns-in_err-why_not_align : goal.returns-in_err-why_not_align
unfolding aligned_tables
returns-in_err-why_not_align c =
    let told : c.from_residual.result ≡ Err c.in_err-why_not_align.field-0.0 = search rules in
    rw (told, c.in_err-why_not_align.ensures) (sym (down _ _ c.in_err-why_not_align.field-0.0 c.in_err-why_not_align.ensures))

pub slice_bounds-pad-end : goal.slice_bounds-pad-end
slice_bounds-pad-end c =
    let fits = align_accepted (sym c.in_ok-why_not_align.ensures) in
    omega (arith, c.padding_within-len.ensures, fits.fits)

pub put_alignment-requires : goal.put_alignment-requires
put_alignment-requires c =
    let fits = align_accepted (sym c.in_ok-why_not_align.ensures) in
    λ e. omega (arith, fits.event e)

pub returns : goal.returns
unfolding aligned_tables
returns c =
    let a = c.args in
    let at = a.self.code in
    let n = c.padding_within-len.result in
    let fits = align_accepted (sym c.in_ok-why_not_align.ensures) in
    let padded = over_padded a.code.now at (at + n - at) n a.self.arch (omega arith) (omega (arith, c.padding_within-len.ensures, fits.fits)) in
    rw (c.put_alignment.ensures, ← c.padding_within-len.ensures, c.pad.ensures, padded) (sym (past _ _ c.in_ok-why_not_align.ensures))
