-- `settle_piece` meets its contract: the definitions passed are new, and noted.
use Rattle.std.proofs.Common.{◌≡◌, ℕ, eqb, length}
use Rattle.seqs.proofs.Scans.{AllPassed}
use Rattle.join.specs.Symbols.{undefined, symbol_at, find_before}
use Rattle.join.specs.steps.Tables.{Begun}
use Rattle.join.proofs.symbols.settle_piece.Given as goal

abbrev pub invariant-loop-j : goal.invariant-loop-j
invariant-loop-j l = AllPassed (λ (i : ℕ). eqb (find_before l.pieces l.labels l.definitions l.k l.placed.piece l.placed.cursor i (symbol_at l.definitions l.placed.cursor i)) undefined) l.placed.piece.definitions l.j × Begun l.table l.pieces l.labels l.definitions l.k l.placed.piece l.placed.cursor l.j × (length l.table ≡ length l.initial.table)
