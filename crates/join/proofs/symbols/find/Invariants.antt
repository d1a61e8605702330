-- `find` meets its contract: no definition of the pieces passed is the symbol's.
use Rattle.std.proofs.Common.{◌≡◌, ℕ}
use Rattle.seqs.proofs.Scans.{NoneRefused}
use Rattle.join.specs.Pieces.{piece_at, cursor_at}
use Rattle.join.specs.Symbols.{find_in}
use Rattle.join.proofs.symbols.find.Given as goal

abbrev pub invariant-loop-k : goal.invariant-loop-k
invariant-loop-k l = NoneRefused (λ (i : ℕ). find_in l.labels l.definitions (piece_at l.pieces i) (cursor_at l.pieces i) (piece_at l.pieces i).definitions l.symbol) l.n l.k × (l.cursor ≡ cursor_at l.pieces l.k)
