-- `same_arch` meets its contract: `all` compares each piece with the first.
use Rattle.std.proofs.Common.{ℕ, eqb, rules}
use borrow.Author.Tests.{tests}
use Rattle.seqs.proofs.Ranges.{all_of_range}
use Rattle.join.specs.Pieces.{piece_at, same_arch}
use Rattle.join.proofs.pieces.same_arch.Goals as goal

pub returns : goal.returns
unfolding same_arch
returns c =
    let pieces = c.args.pieces.now in
    all_of_range (λ (k : ℕ). eqb (piece_at pieces k).arch (piece_at pieces 0).arch) c.args.n c.all.ensures.ran (λ x b q k. search (rules, tests))
