-- `relaxed` meets its contract: each way does what is asked.
use native.Mathlib.Omega.{arith}
use Rattle.finish.proofs.StageAnswers.{few}
use Rattle.finish.proofs.pooled.relaxed.Goals as goal

pub relaxed_with-requires-2-clause-marked : goal.relaxed_with-requires-2-clause-marked
relaxed_with-requires-2-clause-marked c = omega (arith, few c.requires)
