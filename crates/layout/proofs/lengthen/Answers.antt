-- `lengthen` meets its contract: a turn scans one event more.
use Rattle.std.proofs.Common.{◌≡◌, arith}
use Rattle.layout.proofs.Scan.{scanned_none, scan_mark, scan_near, scan_long, scan_all}
use Rattle.layout.proofs.lengthen.Goals as goal
use Rattle.layout.proofs.lengthen.Goals.{then-not-long-i+then-is_missed, else-not-long-i, else-not-long-i-via-then-not-long-i+else-is_missed, else-not-long-i-via-else-not-long-i}

pub loop-i-init : goal.loop-i-init
loop-i-init c = scanned_none _ _

pub is_missed-requires : goal.is_missed-requires
is_missed-requires c =
    let more = c.loop-i-test.true in
    record { within = (omega (arith, c.requires.within), omega (arith, c.requires.within)); adds = c.requires.adds _ more }

pub loop-i-preserved : goal.loop-i-preserved
loop-i-preserved c =
    let l = c.loop-i in
    let more = c.loop-i-test.true in
    elim c.if-not-long-i.branch [
      | then-not-long-i+then-is_missed w ↦ scan_mark _ _ c.args.n _ l.invariant more w.if-not-long-i.true w.is_missed.ensures w.if-is_missed.true w.long-is w.grew-is
      | else-not-long-i w ↦ elim w.else-not-long-i.branch [
        | else-not-long-i-via-then-not-long-i+else-is_missed w' ↦ scan_near _ _ c.args.n _ l.invariant more w'.is_missed.ensures w'.if-is_missed.false w.long-is w.grew-is
        | else-not-long-i-via-else-not-long-i w' ↦ scan_long _ _ c.args.n _ l.invariant more w'.if-not-long-i.false w.long-is w.grew-is
      ]
    ]

pub returns : goal.returns
returns c =
    let e : c.loop-i.i ≡ c.args.n = omega arith in
    let all = scan_all _ _ c.args.n _ (rw e at c.loop-i.invariant) in
    record { long_after = all.0; value = all.1 }
