-- `opened` meets its contract.
use Rattle.buffer.proofs.Answered.{byte_one}
use Rattle.buffer.proofs.open.opened.Goals as goal

pub returns : goal.returns
returns c =
    rw (c.from.ensures, c.word_at.ensures) (byte_one _)
