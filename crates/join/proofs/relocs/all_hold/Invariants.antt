-- `all_hold` meets its contract: what is asked holds of all the relocations of the pieces passed.
use Rattle.std.proofs.Common.{◌≡◌, ℕ}
use Rattle.seqs.proofs.Scans.{AllPassed}
use Rattle.join.specs.Pieces.{piece_at, cursor_at}
use Rattle.join.specs.Join.{Test, relocs_hold}
use Rattle.join.specs.steps.Asking.{Asks}
use Rattle.join.proofs.relocs.all_hold.Given as goal

abbrev pub invariant-loop-k : goal.invariant-loop-k
invariant-loop-k g l =
    ((asked : Test) (known : ℕ → ℕ) → Asks (goal.F-post g l.test) asked known → AllPassed (λ (i : ℕ). relocs_hold asked known l.relocs (piece_at l.pieces i) (cursor_at l.pieces i) (piece_at l.pieces i).relocs) l.n l.k)
    × (l.cursor ≡ cursor_at l.pieces l.k)
