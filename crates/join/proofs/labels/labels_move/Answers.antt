-- `labels_move` meets its contract: `all` asks it of each label.
use Rattle.std.proofs.Common.{ℕ, ◌+◌, rules}
use borrow.Author.Tests.{tests}
use Rattle.seqs.proofs.Ranges.{all_of_range}
use Rattle.words.specs.Words.{word_at}
use Rattle.join.specs.Pieces.{base_of}
use Rattle.join.specs.Join.{label_moves, labels_move}
use Rattle.join.proofs.labels.labels_move.Goals as goal

pub returns : goal.returns
unfolding labels_move
returns c =
    let a = c.args in
    all_of_range (λ (j : ℕ). label_moves (base_of a.placed.piece a.placed.cursor) (word_at a.labels.now (a.placed.cursor.labels + j))) a.placed.piece.labels c.all.ensures.ran (λ x b q k. search (rules, tests))
