-- What a call that is not turned down knows.
use mathlib.Core.Path.{◌≡◌}
use mathlib.Core.Bool.{Bool, true, not, ◌&&◌}
use Prim.Native.Nat.{ℕ, ◌≤◌}
use native.Mathlib.Omega.{arith}
use borrow.Author.Tests.{not-false, eqb-true, leb-true}
use lib.Dec.{eqb, leb}
use Rattle.refusals.specs.Numbers as refusals
use Rattle.seqs.proofs.Booleans.{both_true}
use Rattle.seqs.proofs.Picking.{passed, zero_passed}
use Rattle.buffer.specs.declared.CodeBuffer.{CodeBuffer}
use Rattle.buffer.specs.Refusals.{arch_occurs, refusal_occurs, standing}
use Rattle.buffer.specs.Tables.{most_open}

pub record Stands (b : CodeBuffer) (fit within : Bool) : Type 0 where
  pub fits : fit ≡ true
  pub few_open : b.unresolved ≤ most_open
  pub limited : within ≡ true
  pub unrefused : b.refusal ≡ 0
  pub unfinished : b.finished ≡ 0

pub stands : (b : CodeBuffer) (fit within : Bool) → standing b fit within ≡ 0 → Stands b fit within
unfolding standing
stands b fit within h =
    let first = passed (not (arch_occurs b.arch && refusal_occurs b.refusal && leb b.unresolved most_open && fit)) refusals.malformed _ (λ e. omega arith) h in
    let counts = both_true (arch_occurs b.arch && refusal_occurs b.refusal && leb b.unresolved most_open) fit (not-false _ first.0) in
    let second = zero_passed b.refusal _ first.1 in
    let third = passed (not within) refusals.past_limit _ (λ e. omega arith) second.1 in
    let fourth = passed (not (eqb b.finished 0)) refusals.already_finished _ (λ e. omega arith) third.1 in
    record {
      fits = counts.1;
      few_open = leb-true b.unresolved most_open (both_true (arch_occurs b.arch && refusal_occurs b.refusal) (leb b.unresolved most_open) counts.0).1;
      limited = not-false within third.0;
      unrefused = second.0;
      unfinished = eqb-true b.finished 0 (not-false _ fourth.0);
    }

-- a count that was compared with what is lent
pub count_fits : (b : CodeBuffer) (count room : ℕ) (within : Bool) → standing b (leb count room) within ≡ 0 → count ≤ room
count_fits b count room within h = leb-true count room (stands b (leb count room) within h).fits

-- two of them
pub counts_fit_lem : (b : CodeBuffer) (n room m more : ℕ) (within : Bool) → standing b (leb n room && leb m more) within ≡ 0 → (n ≤ room) × (m ≤ more)
counts_fit_lem b n room m more within h =
    let f = both_true (leb n room) (leb m more) (stands b (leb n room && leb m more) within h).fits in
    (leb-true n room f.0, leb-true m more f.1)
