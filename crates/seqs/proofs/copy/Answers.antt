-- `copy` meets its contract: after as many turns as `at` counts, `dst` is overwritten by as many bytes of `src`.
use mathlib.Core.Path.{refl, sym, ◌∙◌}
use native.Mathlib.Omega.{arith}
use lib.ListN.{length-set}
use Rattle.seqs.proofs.Overwrites.{over_nil, over_copy, over_take}
use Rattle.seqs.proofs.copy.Goals as goal

pub loop-at-init : goal.loop-at-init
loop-at-init c = (omega arith, omega arith, sym (over_nil _ 0), refl)

pub loop-at-preserved : goal.loop-at-preserved
loop-at-preserved c =
    let l = c.loop-at in (
      omega arith,
      l.invariant.1,
      rw l.invariant.2 (over_copy _ 0 c.args.src.now l.at l.at 0 (omega arith) (omega arith)),
      simp length-set (omega arith),
    )

pub returns : goal.returns
returns c =
    let a = c.args in
    c.loop-at.invariant.2 ∙ over_take a.dst.now a.src.now c.loop-at.at (omega arith)
