-- `number` meets its contract: a variant's number is the refusal's.
use Rattle.refusals.proofs.Variants.{number_tag}
use Rattle.refusals.proofs.Refusal.number.Goals as goal

pub returns : goal.returns
returns c = number_tag c.args.self
