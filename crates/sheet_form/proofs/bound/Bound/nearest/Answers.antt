-- `nearest` meets its contract.
use Rattle.std.proofs.Common.{rules, arith, ◌≡◌}
use Rattle.sheet_form.specs.steps.Bound.{limit_of}
use Rattle.sheet_form.proofs.Bounds.{greatest_told, second_told, kept_below}
use Rattle.sheet_form.proofs.bound.Bound.nearest.Goals as goal

pub returns-then-most-code : goal.returns-then-most-code
returns-then-most-code c =
    let most : c.unwrap_or-most.result ≡ limit_of c.args.self.greatest = search rules in
    λ labels n known. rw most (greatest_told known c.args.code (rw most at c.if-most-code.true) (omega arith))

pub returns : goal.returns
returns c =
    let most : c.unwrap_or-most.result ≡ limit_of c.args.self.greatest = search rules in
    let is : c.filter.result ≡ kept_below c.args.code c.args.self.second = search rules in
    let past = rw most at c.if-most-code.false in
    λ labels n known. rw is (second_told known c.args.code (omega (arith, past)))
