-- `defined_as` meets its contract.
use Rattle.std.proofs.Common.{rules}
use Rattle.seqs.proofs.Picking.{picks}
use Rattle.join.proofs.symbols.defined_as.Goals as goal

pub returns-then-symbol_at-symbol : goal.returns-then-symbol_at-symbol
returns-then-symbol_at-symbol c = search (rules, picks)

pub returns-else-symbol_at-symbol : goal.returns-else-symbol_at-symbol
returns-else-symbol_at-symbol c = search (rules, picks)
