-- `copy_run` meets its contract: a part of the code is copied into a part of the output.
use Rattle.emit.proofs.Runs.{run_copied}
use Rattle.emit.proofs.copy_run.Goals as goal

pub returns : goal.returns
returns c =
    search (run_copied, c.requires.0, c.requires.1, c.requires.2, c.copy.ensures)
