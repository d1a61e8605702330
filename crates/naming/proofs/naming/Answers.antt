-- `naming` meets its contract: the test is that of `holds_at`.
use Rattle.std.proofs.Common.{rules}
use borrow.Author.Tests.{tests}
use Rattle.naming.specs.Naming.{holds_at, naming}
use Rattle.naming.proofs.naming.Goals as goal

pub returns : goal.returns
unfolding naming
returns c =
    let a = c.args in
    c.how_many.ensures (holds_at a.table.now a.stride a.at a.value) (λ i b q. search (rules, tests))
