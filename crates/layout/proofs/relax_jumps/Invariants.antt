-- `relax_jumps` meets its contract: a round that lengthens a jump leaves fewer short ones, and one that lengthens none is the last.
use mathlib.Core.Path.{◌≡◌}
use Prim.Native.Nat.{◌+◌, ◌-◌, ◌≤◌}
use lib.ListN.{length}
use Rattle.words.specs.Words.{word_at}
use Rattle.fresh.specs.Rounds.{jumps}
use Rattle.layout.specs.steps.Layout.{all_events}
use Rattle.layout.specs.steps.Targets.{Aiming}
use Rattle.layout.proofs.Standing.{Standing}
use Rattle.layout.proofs.relax_jumps.Given as goal

-- The table is the one that the loop was handed, but for its events' rows.
abbrev pub invariant-loop-segments : goal.invariant-loop-segments
invariant-loop-segments l =
    (l.n + l.pool.count ≤ length l.segments)
    × (length l.long ≡ length l.initial.long)
    × Standing (all_events l.events l.n l.code l.pool.constants.now l.pool.asked.now l.pool.count) (word_at l.labels) l.initial.long l.initial.segments l.segments l.long l.layouts
    × Aiming (all_events l.events l.n l.code l.pool.constants.now l.pool.asked.now l.pool.count) (word_at l.labels) l.events l.n l.segments

abbrev pub decreases-loop-segments : goal.decreases-loop-segments
decreases-loop-segments l = jumps (all_events l.events l.n l.code l.pool.constants.now l.pool.asked.now l.pool.count) - l.layouts
