-- `pieces_fit` meets its contract: `all` asks it of each piece.
use Rattle.std.proofs.Common.{ℕ, rules}
use borrow.Author.Tests.{tests}
use Rattle.seqs.proofs.Ranges.{all_of_range}
use Rattle.join.specs.Pieces.{piece_at, piece_fits, pieces_fit}
use Rattle.join.proofs.pieces.pieces_fit.Goals as goal

pub returns : goal.returns
unfolding pieces_fit
returns c = all_of_range (λ (k : ℕ). piece_fits (piece_at c.args.pieces.now k)) c.args.n c.all.ensures.ran (λ x b q k. search (rules, tests))
