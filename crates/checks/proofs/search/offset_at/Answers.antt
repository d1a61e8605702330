-- `offset_at` meets its contract: the label is the constant's.
use Rattle.checks.proofs.search.offset_at.Goals as goal

pub returns : goal.returns
returns c =
    rw (c.word_at.ensures, c.label_at-label.ensures)
