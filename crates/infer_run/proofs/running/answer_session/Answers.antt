use Rattle.infer_run.specs.declared.words.Request.TheVariants as request
use Rattle.infer_run.proofs.running.answer_session.Goals as goal

pub returns-in-Ok : goal.returns-in-Ok
returns-in-Ok g c = c.finish.ensures request.Session c.args.defs.now (rw c.as_str.ensures.value c.in-Ok.ensures)
