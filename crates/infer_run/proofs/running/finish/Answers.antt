use Rattle.std.proofs.Common.{◌≡◌, ◌∙◌}
use Rattle.infer_run.proofs.Endings.{byte_is, front_written, whole_written}
use Rattle.infer_run.proofs.running.finish.Goals as goal
use Rattle.infer_run.proofs.running.finish.Goals.{in-Ok, in-Err}

pub returns : goal.returns
returns g c = λ r defs due.
    elim c.match-write_all.branch [
      | in-Ok w ↦ rw (w.status-is ∙ (w.from-status.ensures ∙ byte_is c.args.complains)) (whole_written r _ defs _ _ c.args.complains due _ _ _ _ (rw c.as_bytes.ensures.value at w.in-Ok.ensures.whole))
      | in-Err w ↦ rw w.status-is (front_written r _ defs _ _ _ due _ _ _ _ w.in-Err.ensures.cause.failed (rw c.as_bytes.ensures.value at w.in-Err.ensures.front))
    ]
