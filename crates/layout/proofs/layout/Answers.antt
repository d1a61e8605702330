-- `layout` meets its contract: each row is its event's segment.
use mathlib.Core.Path.{refl, ◌∙◌}
use native.Mathlib.Omega.{arith}
use Rattle.std.proofs.Common.{rules}
use Rattle.recording.proofs.Views.{length_entries}
use Rattle.layout.proofs.Turns.{kept_laid}
use Rattle.layout.proofs.Pooling.{segments_join, ends_join}
use Rattle.layout.proofs.layout.Goals as goal

pub returns : goal.returns
returns c =
    let a = c.args in
    let made = c.layout_by.ensures in
    let laid = kept_laid made.recorded (length_entries _ _) (omega arith) (λ x s r k. search rules) in record {
      segments_after = segments_join a.events.now a.n a.code a.pool.now.constants.now a.pool.now.asked.now a.long.now _ _ _ laid.here made.order refl
          _ _ _ a.pool.now.count laid.table made.pooled;
      value = made.length
          ∙ ends_join a.events.now a.n a.code a.pool.now.constants.now a.pool.now.asked.now a.long.now _ _ _ laid.here made.order refl a.pool.now.count;
    }
