-- `open_once_bound` meets its contract: where none is open, and where the current offset is no label's, the tables do not matter.
use Prim.Native.Nat.{ℕ}
use native.Mathlib.Omega.{arith}
use Rattle.seqs.proofs.Picking.{yes_eq, no_eq}
use Rattle.buffer.specs.Open.{settled}
use Rattle.buffer.proofs.CodeBuffer.open_once_bound.Goals as goal

pub returns-then-self-eq0 : goal.returns-then-self-eq0
returns-then-self-eq0 c = omega arith

pub returns-then-self-eq-NONE : goal.returns-then-self-eq-NONE
unfolding settled
returns-then-self-eq-NONE c = rw (yes_eq {A = ℕ} _ _ 0 _ c.if-self-eq-NONE.true) (omega arith)

pub returns : goal.returns
unfolding settled
returns c =
    rw (no_eq {A = ℕ} _ _ 0 _ c.if-self-eq-NONE.false, ← c.named-settled.ensures) (omega arith)
