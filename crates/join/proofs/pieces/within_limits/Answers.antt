-- `within_limits` meets its contract: `all` asks it of each piece.
use Rattle.std.proofs.Common.{ℕ, rules}
use borrow.Author.Tests.{tests}
use Rattle.seqs.proofs.Ranges.{all_of_range}
use Rattle.join.specs.Pieces.{piece_at, piece_within_limits, within_limits}
use Rattle.join.proofs.pieces.within_limits.Goals as goal

pub returns : goal.returns
unfolding within_limits
returns c = all_of_range (λ (k : ℕ). piece_within_limits (piece_at c.args.pieces.now k)) c.args.n c.all.ensures.ran (λ x b q k. search (rules, tests))
