-- `fits_32` meets its contract.
use Rattle.std.proofs.Common.{rules}
use borrow.Author.Tests.{tests}
use Rattle.fields.specs.Words64.{range}
use Rattle.join.proofs.relocs.fits_32.Goals as goal

pub returns : goal.returns
unfolding range
returns c = search (rules, tests)
