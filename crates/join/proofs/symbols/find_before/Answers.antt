-- `find_before` meets its contract: by the table, or by a search.
use Rattle.std.proofs.Common.{sym, ◌∙◌}
use Rattle.seqs.proofs.Picking.{yes_eq, no_eq}
use Rattle.join.specs.Symbols.{find_before}
use Rattle.join.proofs.symbols.find_before.Goals as goal

pub returns-then-found-ne-UNDEFINED : goal.returns-then-found-ne-UNDEFINED
unfolding find_before
returns-then-found-ne-UNDEFINED c =
    c.find-found.ensures ∙ sym (no_eq _ _ _ _ (λ e. c.if-found-ne-UNDEFINED.true (c.find-found.ensures ∙ e)))

pub returns : goal.returns
unfolding find_before
returns c =
    c.find_in.ensures ∙ sym (yes_eq _ _ _ _ (sym c.find-found.ensures ∙ c.if-found-ne-UNDEFINED.false))
