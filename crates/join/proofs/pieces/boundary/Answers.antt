-- `boundary` meets its contract.
use Rattle.std.proofs.Common.{rules}
use Rattle.seqs.proofs.Picking.{picks}
use Rattle.join.proofs.pieces.boundary.Goals as goal

pub returns-then-piece-eq-AARCH64 : goal.returns-then-piece-eq-AARCH64
returns-then-piece-eq-AARCH64 c = search (rules, picks)

pub returns-else-piece-eq-AARCH64 : goal.returns-else-piece-eq-AARCH64
returns-else-piece-eq-AARCH64 c = search (rules, picks)
