-- `is_unfit` meets its contract: its tests are those of `jump_unfit`, in order.
use Rattle.std.proofs.Common.{◌≡◌, sym, ap, ◌∙◌, arith}
use borrow.Author.Tests.{lt-ltb}
use lib.Dec.{ltb}
use Rattle.buffer.specs.Refusals.{label_inside, jump_unfit}
use Rattle.buffer.proofs.Scan.{unfit_by_label}
use Rattle.buffer.proofs.Below.{inside_below}
use Rattle.buffer.proofs.CodeBuffer.is_unfit.Goals as goal

pub returns-then-is_malformed : goal.returns-then-is_malformed
unfolding jump_unfit
returns-then-is_malformed c =
    rw (sym c.is_malformed.ensures ∙ c.if-is_malformed.true)

pub returns-then-start-last_end : goal.returns-then-start-last_end
unfolding jump_unfit
returns-then-start-last_end c =
    rw (
      sym c.is_malformed.ensures ∙ c.if-is_malformed.false,
      ← c.last_end.ensures,
      lt-ltb c.args.start c.last_end.result c.if-start-last_end.true,
    )

pub returns-in-Some : goal.returns-in-Some
returns-in-Some c =
    let a = c.args in
    let only : jump_unfit a.self a.labels.now a.events.now a.start a.len a.cc ≡ label_inside a.labels.now a.self.labels a.start a.self.code =
    unfit_by_label a.self a.labels.now a.events.now a.start a.len a.cc (sym c.is_malformed.ensures ∙ c.if-is_malformed.false) (omega (arith, c.last_end.ensures, c.if-start-last_end.false)) in
    sym (only ∙ (inside_below a.labels.now a.self.labels a.start a.self.code ∙ ap (ltb a.start) (sym (c.requires.2.right c.in-Some.at c.in-Some.is))))

pub returns-in-None : goal.returns-in-None
returns-in-None c =
    let a = c.args in
    let only : jump_unfit a.self a.labels.now a.events.now a.start a.len a.cc ≡ label_inside a.labels.now a.self.labels a.start a.self.code =
    unfit_by_label a.self a.labels.now a.events.now a.start a.len a.cc (sym c.is_malformed.ensures ∙ c.if-is_malformed.false) (omega (arith, c.last_end.ensures, c.if-start-last_end.false)) in
    c.label_inside.ensures ∙ sym (only)
