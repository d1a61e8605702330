-- `next_segment` meets its contract.
use mathlib.Core.Path.{refl}
use Prim.Native.Nat.{◌+◌, ◌-◌}
use native.Mathlib.Omega.{arith}
use Rattle.fresh.proofs.Forms.{width_small}
use Rattle.layout.proofs.next_segment.Goals as goal

pub overflow_add-result : goal.overflow_add-result
overflow_add-result c =
    let a = c.args in
    let p = c.requires in
    let at = a.new + (c.event_start-start.result - a.old) in
    omega (arith, p.small, c.event_start-start.ensures, c.width_of.ensures, width_small a.event a.long at p.modest)

pub returns : goal.returns
returns c =
    rw (c.width_of.ensures, c.event_end.ensures, c.event_start-start.ensures) refl
