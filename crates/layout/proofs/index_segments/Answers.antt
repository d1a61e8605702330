-- `index_segments` meets its contract.
use Rattle.lookup.proofs.Index.{indexed_none}
use Rattle.layout.proofs.index_segments.Goals as goal

pub returns-else-index-ge-SIZE : goal.returns-else-index-ge-SIZE
returns-else-index-ge-SIZE c =
    indexed_none _ _ _ _ c.requires.within.0 c.if-index-ge-SIZE.false
