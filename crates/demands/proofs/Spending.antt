-- Alignments that finish finds among the events spend what they may: those that it takes from the table, and those of the pool.
use mathlib.Core.Path.{◌≡◌}
use mathlib.Core.Logic.{inl, inr}
use mathlib.Core.List.{List}
use Prim.Native.Nat.{ℕ}
use native.Mathlib.Omega.{arith}
use Rattle.seqs.specs.Pick.{pick}
use Rattle.encoder.proofs.Padding.{padding_spends}
use Rattle.relax.specs.declared.Alignment.{Alignment}
use Rattle.relax.specs.declared.LayoutEvent.TheVariants.{Align}
use Rattle.relax.specs.Events.{event_of}
use Rattle.buffer.specs.Tables.{default_most}
use Rattle.recording.specs.Sound.{FormOf}
use Rattle.fresh.specs.Pooled.{constant_alignment}
use Rattle.fresh.specs.Forms.{role_of}
use Rattle.fresh.proofs.Constants.{alignment_range, constant_spends}
use Rattle.pool.specs.steps.Pool.{size_at, pool_start, pool_padding, pool_event}
use Rattle.finish.proofs.PooledInOrder as tables
use Rattle.demands.specs.Demand2.{SpendsAsRecorded}

-- The columns of an event that finish takes, read as an alignment.
pub column_spends : (labels kind start len what how : ℕ) → FormOf labels kind start len what how → (a : Alignment) → event_of kind start len what how ≡ Align a
    → SpendsAsRecorded a
unfolding event_of pick role_of
column_spends labels kind start len what how (inl jump) a is =
    let read = rw jump.0 at is in
    let z : ◌≡◌ {A = ℕ} 0 1 = cc in
    absurd (omega arith)
column_spends labels kind start len what how (inr kept) a is =
    let read = rw kept.0 at is in
    let same : record { start = start; len = len; align = what; most = how } ≡ a = cc in
    rw (← same, kept.2) (padding_spends start what how (tables.alignment_range what kept.1).0)

-- The alignment of a pooled constant.
pub pool_spends : (from : ℕ) (constants asked : List ℕ) (j : ℕ) (a : Alignment) → pool_event from constants asked j ≡ Align a → SpendsAsRecorded a
pool_spends from constants asked j a is =
    let start = pool_start from constants asked j in
    let size = size_at constants asked j in
    let same : record {
      start = start;
      len = pool_padding from constants asked j;
      align = constant_alignment size;
      most = default_most;
    } ≡ a = cc in
    rw (← same, ← constant_spends start size) (padding_spends start (constant_alignment size) default_most (omega (arith, alignment_range size)))
