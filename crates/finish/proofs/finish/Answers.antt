-- `finish` meets its contract: what it begins, relaxes and concludes.
use mathlib.Core.Path.{refl}
use Rattle.finish.proofs.finish.Goals as goal

pub invariant_of-pool : goal.invariant_of-pool
invariant_of-pool c =
    record { fits = (c.in_default.ensures.begins refl).relaxable.ready.pool }

pub returns : goal.returns
returns c =
    let begins = c.in_default.ensures.begins refl in
    begins.concludes _ refl _ _ (λ us. rw begins.kept at (c.relaxed-placed.ensures us)) _ _ c.conclude.ensures
