-- Demand 3: what a finish makes from segments, at the settled choice, meets it.
use mathlib.Core.Path.{◌≡◌, ap}
use mathlib.Core.Bool.{false}
use mathlib.Core.List.{map}
use Prim.Native.Nat.{ℕ, ◌+◌, ◌≤◌, ◌<◌}
use native.Mathlib.Omega.{arith}
use lib.ListN.{length, get_or}
use Rattle.relax.specs.declared.LayoutEvent.TheVariants.{Jump}
use Rattle.relax.specs.declared.RelaxableJump.{RelaxableJump}
use Rattle.relax.specs.Events.{no_event}
use Rattle.fresh.specs.Pooled.{Pooled}
use Rattle.fresh.specs.Forms.{branch_of, role_of}
use Rattle.fresh.specs.Fresh.{Choice, walk, starts, target}
use Rattle.fresh.specs.Rounds.{settled}
use Rattle.fresh.specs.Segments.{map_offset, segments_of}
use Rattle.fresh.specs.Demand.{Fits, Demand3}
use Rattle.fresh.specs.Order.{WellFormed}
use Rattle.fresh.specs.steps.Runs.{built}
use Rattle.fresh.proofs.Least.{Bound}
use Rattle.fresh.proofs.Rounds.{rounds_settle, rounds_bound, rounds_last, none_fits}
use Rattle.fresh.proofs.Least.{rounds_least}
use Rattle.fresh.proofs.Fill.{built_assembled, labels_same}

-- The code built from the segments of the settled choice, the labels mapped through them, the code's length, and the number of rounds.
pub demand3 : (p : Pooled) → WellFormed p → Bound p.labels p.events
    → Demand3 p (built p (settled p).choice) (map (map_offset (segments_of p (settled p).choice)) p.labels) (length (built p (settled p).choice))
    (settled p).rounds
demand3 p wf bound =
    record {
      choice = (settled p).choice;
      rounds = rounds_settle p;
      finished = ap length (built_assembled p (settled p).choice wf);
      bytes = built_assembled p (settled p).choice wf;
      offsets = labels_same p (settled p).choice wf;
      few = rounds_bound p;
      reach = none_fits p (settled p).choice (rounds_last (rounds_settle p));
      least = λ na d fits. rounds_least p na bound (rounds_settle p) d fits;
    }

-- The reach, in the words of the demand: of every short jump the label's offset minus the jump's end lies in -128..127.
pub short_jumps_reach : (p : Pooled) (c : Choice) → Fits p c → (i : ℕ) (j : RelaxableJump) → i < length p.events → get_or p.events i no_event ≡ Jump j
    → get_or c i false ≡ false
    → (get_or (starts 0 (walk p) c) i 0 + 2 ≤ target p c j.label + 128) × (target p c j.label ≤ get_or (starts 0 (walk p) c) i 0 + 2 + 127)
unfolding Fits role_of
short_jumps_reach p c fits i j h is short = let near = fits i (branch_of j) h (ap role_of is) short in (omega (arith, near.back), omega (arith, near.ahead))
