-- `all_labels_move` meets its contract: all the labels of the pieces passed move.
use Rattle.std.proofs.Common.{◌≡◌, ℕ}
use Rattle.seqs.proofs.Scans.{AllPassed}
use Rattle.join.specs.Pieces.{piece_at, cursor_at}
use Rattle.join.specs.Join.{labels_move}
use Rattle.join.proofs.labels.all_labels_move.Given as goal

abbrev pub invariant-loop-k : goal.invariant-loop-k
invariant-loop-k l = AllPassed (λ (i : ℕ). labels_move l.labels (piece_at l.pieces i) (cursor_at l.pieces i) (piece_at l.pieces i).labels) l.n l.k × (l.cursor ≡ cursor_at l.pieces l.k)
