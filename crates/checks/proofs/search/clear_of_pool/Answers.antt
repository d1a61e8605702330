-- `clear_of_pool` meets its contract: the last alignment that starts before the end decides.
use mathlib.Core.Path.{◌∙◌}
use borrow.Author.Tests.{eq-eqb}
use native.Mathlib.Omega.{arith}
use Prim.Native.Nat.{◌-◌}
use Rattle.checks.proofs.Clear.{pool_clear_none, pool_clear_last}
use Rattle.checks.proofs.search.clear_of_pool.Goals as goal

pub returns-then-k-eq0 : goal.returns-then-k-eq0
returns-then-k-eq0 c =
    eq-eqb _ 0 c.if-k-eq0.true ∙ pool_clear_none _ _ _ _ _ _ _ c.if-k-eq0.true c.alignments_before-k.ensures

pub offset_at-requires : goal.offset_at-requires
offset_at-requires c =
    let p = c.requires in
    let k = c.alignments_before-k.result in
    let few = c.alignments_before-k.ensures.few in
    (omega (arith, p.room), p.listed (k - 1) (omega arith), p.known (k - 1) (omega arith))

pub returns-else-k-eq0 : goal.returns-else-k-eq0
returns-else-k-eq0 c =
    rw c.offset_at.ensures (pool_clear_last c.args.from c.requires c.alignments_before-k.ensures (omega arith))
