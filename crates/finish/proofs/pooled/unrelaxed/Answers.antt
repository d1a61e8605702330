-- `unrelaxed` meets its contract: each return is one case of proofs/Stages.
use mathlib.Core.Path.{refl}
use mathlib.Core.List.{[]}
use native.Mathlib.Omega.{arith}
use Rattle.refusals.proofs.Variants.{number_not_0}
use borrow.Author.Rules.{rules}
use Rattle.finish.proofs.StageAnswers.{handed_on, kept_refused, copying, kept_done}
use Rattle.finish.proofs.pooled.unrelaxed.Goals as goal

pub why_not_in_place-requires : goal.why_not_in_place-requires
why_not_in_place-requires c =
    let k = c.requires in record { uses_within = k.used_room; named = record { known = λ i h. omega (arith, k.known i h, k.room) } }

pub returns-in_err-why_not_in_place : goal.returns-in_err-why_not_in_place
returns-in_err-why_not_in_place c =
    λ es rs. kept_refused _ _ _ _ _ c.args.b.arch _ _ _ _ es rs c.requires _ _ _ c.end-end.ensures.0 c.in_err-why_not_in_place.ensures _ (number_not_0 c.in_err-why_not_in_place.field-0.0) (handed_on c.in_err-why_not_in_place.field-0.0 (search rules))

pub write_in_place-requires : goal.write_in_place-requires
write_in_place-requires c =
    copying _ _ _ _ _ c.args.b.arch _ _ _ _ [] [] c.requires _ _ _ c.end-end.ensures.0 c.in_ok-why_not_in_place.ensures refl

pub returns : goal.returns
returns c =
    λ es rs. kept_done _ _ _ _ _ c.args.b.arch _ _ _ _ es rs c.requires _ _ _ c.end-end.ensures.0 c.in_ok-why_not_in_place.ensures refl _ _ refl c.write_in_place.ensures
