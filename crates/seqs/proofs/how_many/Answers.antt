-- `how_many` meets its contract: each number adds 1 where it has the property.
use Rattle.std.proofs.Common.{◌≡◌, sym, ap, arith}
use Rattle.seqs.specs.Counting.{one}
use Rattle.seqs.proofs.Counting.{none_counted, one_counted, one_le, byte_one}
use Rattle.seqs.proofs.how_many.Goals as goal

pub loop-i-init : goal.loop-i-init
loop-i-init g c = (omega arith, omega arith, λ f k. sym (none_counted f))

pub loop-i-preserved : goal.loop-i-preserved
loop-i-preserved g c =
    let l = c.loop-i in
    let t = c.has.result in (
      omega arith,
      omega (arith, l.invariant.1, c.from-found.ensures, byte_one t, one_le t),
      λ f computes. let here : one t ≡ one (f l.i) = ap one (computes _ _ c.has.ensures) in omega (arith, l.invariant.2 f computes, c.from-found.ensures, byte_one t, here, one_counted f l.i),
    )
