-- The pooled recording as the stages of finish are handed it: recorded lists, and the pool of the first m constants that `asked` lists, which starts where
-- the recorded code ends. `labels` has the pool's labels bound. Equal to `pooled` (`pooled-tables`).
use Rattle.std.specs.Prelude.{cond, List, [], ◌++◌, ℕ}
use Rattle.relax.specs.declared.LayoutEvent.{LayoutEvent}
use Rattle.buffer.specs.State.{keeps_events}
use Rattle.recording.specs.View.{entries, Use, Ref}
use Rattle.fresh.specs.Pooled.{Placed, Pooled}
use Rattle.pool.specs.steps.Pool.{bytes_at, pool_offset, pool_event, pool_bytes}

abbrev pub pool_placed : ℕ → List ℕ → List ℕ → ℕ → Placed
pool_placed from constants asked j = record { offset = pool_offset from constants asked j; bytes = bytes_at constants asked j }

abbrev pub tables_pooled : ℕ → ℕ → List ℕ → List ℕ → List LayoutEvent → List Use → List Ref → List ℕ → List ℕ → ℕ → Pooled
tables_pooled arch from code labels events uses refs constants asked m =
    record {
      arch = arch;
      code = code ++ pool_bytes arch from constants asked m;
      events = events ++ cond (keeps_events arch) (entries (pool_event from constants asked) m) [];
      labels = labels;
      uses = uses;
      refs = refs;
      pool = entries (pool_placed from constants asked) m;
    }

-- the same where the pool's alignments are events, on any architecture that keeps them
abbrev pub laid_pooled : ℕ → ℕ → List ℕ → List ℕ → List LayoutEvent → List Use → List Ref → List ℕ → List ℕ → ℕ → Pooled
laid_pooled arch from code labels events uses refs constants asked m =
    record {
      arch = arch;
      code = code ++ pool_bytes arch from constants asked m;
      events = events ++ entries (pool_event from constants asked) m;
      labels = labels;
      uses = uses;
      refs = refs;
      pool = entries (pool_placed from constants asked) m;
    }
