-- `alignment_at` meets its contract: the constant before it ends there.
use native.Mathlib.Omega.{arith}
use Prim.Native.Nat.{◌-◌}
use mathlib.Core.Path.{sym}
use Rattle.checks.proofs.Clear.{after_constant_lem, pool_first}
use Rattle.checks.proofs.search.alignment_at.Goals as goal

pub returns-then-j-eq0 : goal.returns-then-j-eq0
returns-then-j-eq0 c = rw c.if-j-eq0.true (sym (pool_first _ _ _))

pub offset_at-offset-requires : goal.offset_at-offset-requires
offset_at-offset-requires c =
    let a = c.args in
    let p = c.requires in
    (omega (arith, p.room), p.listed (a.j - 1) (omega arith), p.known (a.j - 1) (omega arith))

pub size_at-size-requires : goal.size_at-size-requires
size_at-size-requires c =
    let a = c.args in
    let p = c.requires in
    (omega (arith, p.room), p.listed (a.j - 1) (omega arith))

pub returns : goal.returns
returns c =
    rw (c.size_at-size.ensures, c.offset_at-offset.ensures) (after_constant_lem _ _ _ _ _ (omega arith) c.requires)
