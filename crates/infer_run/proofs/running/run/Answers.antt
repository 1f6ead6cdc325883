use Rattle.infer_run.proofs.Complete.{exactly}
use Rattle.infer_run.proofs.running.run.Goals as goal

pub returns-clause-exactly : goal.returns-clause-exactly
returns-clause-exactly g c = exactly _ _ _ c.run_command.ensures
