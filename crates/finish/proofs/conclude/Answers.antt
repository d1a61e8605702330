-- `conclude` meets its contract, by whether the recording was placed.
use mathlib.Core.Path.{refl, sym}
use Rattle.refusals.proofs.Variants.{number_not_0}
use Rattle.seqs.proofs.Picking.{yes_eq, no_eq}
use Rattle.finish.specs.steps.Ready.{concluded}
use Rattle.finish.proofs.conclude.Goals as goal

pub returns-in-Ok : goal.returns-in-Ok
unfolding concluded
returns-in-Ok c =
    rw (c.finished_with.ensures, c.code_alignment-alignment.ensures, c.requires.counted, c.in-Ok.is) (sym (yes_eq 0 0 _ _ refl))

pub returns-in-Err : goal.returns-in-Err
unfolding concluded
returns-in-Err c =
    rw (c.unbind.ensures, c.requires.counted, c.in-Err.is) (sym (no_eq _ 0 _ _ (number_not_0 c.in-Err.why)))
