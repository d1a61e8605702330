-- `find_in` meets its contract: none of the definitions passed is the symbol's.
use Rattle.seqs.proofs.Scans.{refusing}
use Rattle.join.specs.Symbols.{find_in}
use Rattle.join.proofs.symbols.find_in.Goals as goal

pub loop-j-init : goal.loop-j-init
loop-j-init c = search refusing

pub returns-then-found-ne-UNDEFINED : goal.returns-then-found-ne-UNDEFINED
unfolding find_in
returns-then-found-ne-UNDEFINED c = search refusing

pub loop-j-preserved : goal.loop-j-preserved
loop-j-preserved c = search refusing

pub returns : goal.returns
unfolding find_in
returns c = search refusing
