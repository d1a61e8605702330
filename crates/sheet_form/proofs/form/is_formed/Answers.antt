-- `is_formed` meets its contract.
use Rattle.std.proofs.Common.{rules, arith, sym, ◌∙◌}
use Rattle.sheet_form.specs.Form.{is_formed}
use Rattle.sheet_form.proofs.Forming.{used_fits, out_of_range, formed_clear}
use Rattle.sheet_form.proofs.form.is_formed.Goals as goal

pub slice_bounds-is_clear-count : goal.slice_bounds-is_clear-count
slice_bounds-is_clear-count c =
    let u = used_fits _ _ (sym c.in_range.ensures ∙ c.if-in_range.true) in omega (arith, u, c.used.ensures)

pub slice_bounds-is_clear-start : goal.slice_bounds-is_clear-start
slice_bounds-is_clear-start c =
    let u = used_fits _ _ (sym c.in_range.ensures ∙ c.if-in_range.true) in omega (arith, u, c.used.ensures)

pub returns-then-in_range : goal.returns-then-in_range
returns-then-in_range c =
    c.is_clear.ensures ∙ formed_clear c.in-Ok.kind _ _ (search rules) _ c.used.ensures (sym c.in_range.ensures ∙ c.if-in_range.true)

pub returns-else-in_range : goal.returns-else-in_range
returns-else-in_range c =
    c.if-in_range.false ∙ out_of_range c.in-Ok.kind _ _ (search rules) (sym c.in_range.ensures ∙ c.if-in_range.false)

pub returns-in-Err : goal.returns-in-Err
unfolding is_formed
returns-in-Err c = search rules
