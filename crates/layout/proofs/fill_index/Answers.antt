-- `fill_index` meets its contract: after i turns the first i starts are marked.
use mathlib.Core.Path.{◌≡◌, ◌∙◌}
use native.Mathlib.Omega.{arith}
use Rattle.lookup.proofs.Index.{filled_none, filled_one, filled_all}
use Rattle.layout.proofs.Search.{sorted_rises}
use Rattle.layout.proofs.fill_index.Goals as goal

pub loop-i-init : goal.loop-i-init
loop-i-init c = filled_none _ _ _ _ c.requires.within.1 c.requires.within.0

pub segment_at-requires : goal.segment_at-requires
segment_at-requires c =
    omega (arith, c.requires.sorted.fits)

pub mark-next-requires : goal.mark-next-requires
mark-next-requires c =
    (c.loop-i.invariant.size, c.requires.within.1, omega arith)

pub loop-i-preserved : goal.loop-i-preserved
loop-i-preserved c =
    let said = rw c.segment_at.ensures at c.mark-next.ensures in
    filled_one (sorted_rises c.requires.sorted) c.loop-i.invariant (omega arith) said

pub close-requires : goal.close-requires
close-requires c =
    c.requires.within.2

pub shape_of-index : goal.shape_of-index
shape_of-index c =
    c.close.ensures.size ∙ c.loop-i.auto.index

pub returns : goal.returns
returns c =
    let all : c.loop-i.i ≡ c.args.n = omega arith in
    filled_all (rw all at c.loop-i.invariant) c.close.ensures
