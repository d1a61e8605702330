-- `end_before` meets its contract.
use Rattle.std.proofs.Common.{rules}
use mathlib.Core.Path.{◌≡◌, refl, ap}
use mathlib.Core.Logic.{◌≢◌}
use mathlib.Core.List.{List}
use Prim.Native.Nat.{ℕ, zero, suc, ◌-◌}
use native.Mathlib.Omega.{arith}
use lib.ListN.{get_or}
use Rattle.relax.specs.declared.Segment.{Segment}
use Rattle.layout.specs.steps.Layout.{zero_segment}
use Rattle.layout.specs.steps.Targets.{end_before}
use Rattle.layout.proofs.end_before.Goals as goal

end-of-last : (ss : List Segment) (k : ℕ) → k ≢ 0 → (get_or ss (k - 1) zero_segment).new_end ≡ end_before ss k
end-of-last ss zero some = absurd (some refl)
end-of-last ss (suc k) some = let e : suc k - 1 ≡ k = omega arith in ap (λ (i : ℕ). (get_or ss i zero_segment).new_end) e

pub returns-in_default : goal.returns-in_default
returns-in_default c =
    let some : c.args.k ≢ 0 = search rules in
    rw c.segment_at.ensures (end-of-last _ _ some)
