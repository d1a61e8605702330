-- `moves` meets its contract: `any` asks of each event whether it moves anything.
use Rattle.std.proofs.Common.{rules, ℕ, ◌∙◌}
use borrow.Author.Tests.{tests}
use Rattle.seqs.proofs.Ranges.{any_of_range}
use Rattle.relax.specs.Events.{event_at}
use Rattle.fresh.specs.Forms.{is_moving}
use Rattle.checks.proofs.Moving.{any_moves}
use Rattle.checks.proofs.fields_fit.moves.Goals as goal

pub returns : goal.returns
returns c =
    any_of_range (λ (i : ℕ). is_moving (event_at c.args.events.now i)) c.args.n c.any.ensures.ran (λ x b q k. search (rules, tests)) ∙ any_moves (event_at c.args.events.now) c.args.n
