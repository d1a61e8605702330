-- `settle` meets its contract: the definitions of the pieces passed are new, and noted.
use Rattle.std.proofs.Common.{◌≡◌, ℕ, length}
use Rattle.seqs.proofs.Scans.{AllPassed}
use Rattle.join.specs.Pieces.{piece_at, cursor_at}
use Rattle.join.specs.Symbols.{new_in}
use Rattle.join.specs.steps.Tables.{Settled}
use Rattle.join.proofs.symbols.settle.Given as goal

abbrev pub invariant-loop-k : goal.invariant-loop-k
invariant-loop-k l = AllPassed (λ (i : ℕ). new_in l.pieces l.labels l.definitions i (piece_at l.pieces i) (cursor_at l.pieces i) (piece_at l.pieces i).definitions) l.n l.k × (l.cursor ≡ cursor_at l.pieces l.k) × Settled l.table l.pieces l.labels l.definitions l.k × (length l.table ≡ length l.initial.table)
