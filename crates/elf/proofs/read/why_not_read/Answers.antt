-- `why_not_read` meets its contract, test by test.
use Rattle.std.proofs.Common.{rules}
use Rattle.seqs.proofs.Picking.{picks}
use Rattle.elf.specs.Elf.{why_not_read}
use Rattle.elf.proofs.read.why_not_read.Goals as goal

pub returns-then-not-relas_fit : goal.returns-then-not-relas_fit
unfolding why_not_read
returns-then-not-relas_fit c = search (rules, picks)

pub returns-then-room-gt-MOST_ENTRIES : goal.returns-then-room-gt-MOST_ENTRIES
unfolding why_not_read
returns-then-room-gt-MOST_ENTRIES c = search (rules, picks)

pub returns-then-room-relas : goal.returns-then-room-relas
unfolding why_not_read
returns-then-room-relas c = search (rules, picks)

pub returns : goal.returns
unfolding why_not_read
returns c = search (rules, picks)
