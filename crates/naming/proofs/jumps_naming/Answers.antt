-- `jumps_naming` meets its contract: the test is that of `jump_names`.
use Rattle.std.proofs.Common.{rules}
use borrow.Author.Tests.{tests}
use Rattle.naming.specs.Naming.{jump_names, jumps_naming}
use Rattle.naming.proofs.jumps_naming.Goals as goal

pub returns : goal.returns
unfolding jumps_naming
returns c =
    c.how_many.ensures (jump_names c.args.events.now c.args.label) (λ i b q. search (rules, tests))
