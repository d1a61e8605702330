-- `after_call` meets its contract.
use Rattle.std.proofs.Common.{rules, arith, ◌≡◌, ℕ, option_map, max}
use Rattle.sheet_form.specs.steps.Bound.{limit_of}
use Rattle.sheet_form.proofs.Bounds.{known_still, known_past, known_there, known_before}
use Rattle.sheet_form.proofs.bound.Bound.after_call.Goals as goal

pub returns-then-kind : goal.returns-then-kind
returns-then-kind c =
    λ labels labels' n n' follows known. known_still follows known c.if-kind.true

pub returns-then-most-code : goal.returns-then-most-code
returns-then-most-code c =
    let most : c.unwrap_or-most.result ≡ limit_of c.args.self.greatest = search rules in
    λ labels labels' n n' follows known. known_past follows known c.if-kind.false (omega arith) _ most c.if-most-code.true

pub returns-then-most-code-2 : goal.returns-then-most-code-2
returns-then-most-code-2 c =
    let most : c.unwrap_or-most.result ≡ limit_of c.args.self.greatest = search rules in
    λ labels labels' n n' follows known. known_there follows known c.if-kind.false (omega arith) (rw most at c.if-most-code-2.true)

pub returns-else-most-code-2 : goal.returns-else-most-code-2
returns-else-most-code-2 c =
    let most : c.unwrap_or-most.result ≡ limit_of c.args.self.greatest = search rules in
    let is : c.map.result ≡ option_map (λ (k : ℕ). max k c.args.code) c.args.self.second = search rules in
    λ labels labels' n n' follows known. rw is (known_before follows known c.if-kind.false (omega arith) (omega (arith, rw most at c.if-most-code.false, rw most at c.if-most-code-2.false)))
