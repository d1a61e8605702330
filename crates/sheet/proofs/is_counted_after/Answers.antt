-- `is_counted_after` meets its contract.
use mathlib.Core.Path.{sym, ◌∙◌}
use borrow.Author.Tests.{eqb-true}
use Rattle.seqs.proofs.Booleans.{true_is_not_false}
use Rattle.sheet.proofs.is_counted_after.Goals as goal

pub returns-then-not-has_many_binds : goal.returns-then-not-has_many_binds
returns-then-not-has_many_binds c = λ e. absurd (true_is_not_false (sym e))

pub returns : goal.returns
returns c =
    λ e. sym (sym c.count_open.ensures ∙ eqb-true _ _ e)
