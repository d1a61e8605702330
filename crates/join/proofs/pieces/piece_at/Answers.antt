-- `piece_at` meets its contract.
use Rattle.join.specs.Pieces.{piece_at}
use Rattle.join.proofs.pieces.piece_at.Goals as goal

pub returns : goal.returns
unfolding piece_at
returns c =
    rw (
      c.word_at.ensures,
      c.word_at-2.ensures,
      c.word_at-3.ensures,
      c.word_at-4.ensures,
      c.word_at-5.ensures,
      c.word_at-6.ensures,
    )
