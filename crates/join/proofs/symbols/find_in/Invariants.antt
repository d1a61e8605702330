-- `find_in` meets its contract: none of the definitions passed is the symbol's.
use Rattle.seqs.proofs.Scans.{NoneRefused}
use Rattle.join.specs.Symbols.{defined_as}
use Rattle.join.proofs.symbols.find_in.Given as goal

abbrev pub invariant-loop-j : goal.invariant-loop-j
invariant-loop-j l = NoneRefused (defined_as l.labels l.definitions l.placed.piece l.placed.cursor l.symbol) l.m l.j
