-- `layout_pool` meets its contract: a turn lays out one alignment more.
use mathlib.Core.Path.{◌≡◌}
use native.Mathlib.Numerals.{add-one}
use native.Mathlib.Omega.{arith}
use Rattle.layout.proofs.Pooling.{pool_none, pool_more, pool_padding_lem}
use Rattle.layout.proofs.layout_pool.Goals as goal

pub loop-j-init : goal.loop-j-init
loop-j-init c = pool_none

pub overflow_add-old_end : goal.overflow_add-old_end
overflow_add-old_end c =
    let l = c.loop-j in
    let f = c.args.pool.now.fits in
    omega (arith, l.invariant.near, f.few, pool_padding_lem _ c.size_at-size.result _ _ c.constant_alignment-multiple.ensures c.padding_len.ensures)

pub overflow_add-new_end : goal.overflow_add-new_end
overflow_add-new_end c =
    let l = c.loop-j in
    let f = c.args.pool.now.fits in
    omega (arith, l.invariant.small, f.few, pool_padding_lem _ c.size_at-size.result _ _ c.constant_alignment-multiple.ensures c.padding_len-in-loop-j.ensures)

pub overflow_add-n : goal.overflow_add-n
overflow_add-n c =
    omega (arith, c.args.pool.now.fits.few)

pub overflow_add-from : goal.overflow_add-from
overflow_add-from c =
    let l = c.loop-j in
    let f = c.args.pool.now.fits in
    let n = c.size_at-size in
    let pad = pool_padding_lem _ n.result _ _ c.constant_alignment-multiple.ensures c.padding_len.ensures in
    omega (arith, l.invariant.near, f.few, pad, n.ensures, f.sized l.j c.loop-j-test.true)

pub overflow_add-to : goal.overflow_add-to
overflow_add-to c =
    let l = c.loop-j in
    let f = c.args.pool.now.fits in
    let n = c.size_at-size in
    let pad = pool_padding_lem _ n.result _ _ c.constant_alignment-multiple.ensures c.padding_len-in-loop-j.ensures in
    omega (arith, l.invariant.small, f.few, pad, n.ensures, f.sized l.j c.loop-j-test.true)

pub loop-j-preserved : goal.loop-j-preserved
loop-j-preserved c =
    let l = c.loop-j in
    let multiple = c.constant_alignment-multiple.ensures in
    let one = rw multiple at c.padding_len.ensures in
    let two = rw multiple at c.padding_len-in-loop-j.ensures in
    let next = pool_more l.invariant c.args.pool.now.fits c.loop-j-test.true c.size_at-size.ensures one two in
    rw (add-one l.j, c.put_segment.ensures) next

pub returns : goal.returns
returns c =
    let e : c.loop-j.j ≡ c.args.pool.now.count = omega arith in
    let q = c.loop-j.invariant in
    rw (← e) record { segments_after = q.table; value = rw (← q.start) q.sum }
