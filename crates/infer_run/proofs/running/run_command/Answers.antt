use Rattle.infer_run.proofs.Consequences.{same_request}
use Rattle.infer_run.proofs.Endings.{by_text, read_whole}
use Rattle.infer_run.proofs.running.run_command.Goals as goal

pub returns : goal.returns
returns g c =
    by_text _ _ c.in-Some.request c.in-Some.ensures.some c.deref.result.now (read_whole _ c.deref.result.now c.in-Ok.text.items c.deref.ensures.value c.in-Ok.ensures.whole) c.answer.result (λ r other. same_request _ c.in-Some.request r c.in-Some.ensures.some other) c.answer.ensures
