-- `put_target` meets its contract: the rest of the row is written as it was.
use Rattle.layout.proofs.put_target.Goals as goal

pub returns : goal.returns
returns c =
    rw (c.segment_at-row.ensures, c.unwrap_or-target.ensures) at c.put_segment.ensures
