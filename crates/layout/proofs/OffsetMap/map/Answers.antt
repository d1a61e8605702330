-- `map` meets its contract: the last segment that starts at or before the offset decides.
use Rattle.std.proofs.Common.{rules, ◌≢◌}
use mathlib.Core.Path.{◌∙◌}
use Prim.Native.Nat.{◌-◌, ◌<◌}
use native.Mathlib.Omega.{arith}
use Rattle.layout.proofs.Search.{rising_sorted, map_none, found_none, found_last}
use Rattle.layout.proofs.OffsetMap.map.Goals as goal

pub returns-then-offset-eq-NONE : goal.returns-then-offset-eq-NONE
returns-then-offset-eq-NONE c = map_none _ _ c.if-offset-eq-NONE.true

pub find-requires-clause-sorted : goal.find-requires-clause-sorted
find-requires-clause-sorted c = rising_sorted c.args.self.now.rising

pub returns-in-0 : goal.returns-in-0
returns-in-0 c =
    found_none _ _ _ (rising_sorted c.args.self.now.rising) _ c.find.ensures c.if-offset-eq-NONE.false c.in-0.is

pub place-requires : goal.place-requires
place-requires c =
    let b = c.find.ensures in
    let k = c.find.result in
    let some : k ≢ 0 = search rules in
    let s = c.segment_at.ensures in
    let w : k - 1 < c.args.self.now.count = omega (arith, b.within, some) in
    let small = c.args.self.now.rising.small (k - 1) w in
    rw s (b.under (k - 1) (omega (arith, some)), c.requires c.if-offset-eq-NONE.false, small.0, small.1)

pub returns-in_default : goal.returns-in_default
returns-in_default c =
    let some : c.find.result ≢ 0 = search rules in
    let found = found_last _ _ _ (rising_sorted c.args.self.now.rising) _ c.find.ensures c.if-offset-eq-NONE.false some in
    c.place.ensures ∙ rw c.segment_at.ensures found
