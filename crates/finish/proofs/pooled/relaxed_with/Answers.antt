-- `relaxed_with` meets its contract: it lends `relax_and_write` a mark for each event.
use Rattle.finish.proofs.StageAnswers.{marks_short}
use Rattle.finish.proofs.pooled.relaxed_with.Goals as goal

pub relax_and_write-requires : goal.relax_and_write-requires
relax_and_write-requires g c = record { layable = c.requires.layable; none_long = marks_short _ _ c.requires.marked.0 }
