use Rattle.std.proofs.lemmas.Result.{err_from_is_err_and}
use Rattle.infer_text.proofs.Sessions.{refused}
use Rattle.infer_text.proofs.session.read_session.Goals as goal

pub returns-in_err-judge : goal.returns-in_err-judge
returns-in_err-judge c =
    let p = err_from_is_err_and c.from_residual-in_err-judge.result c.from_residual-in_err-judge.ensures.1 in
    rw (p.1, p.2) (refused c.in_ok-raw.raw c.in_ok-raw.commands c.in_err-judge.field-0.0 _ c.in_ok-raw.ensures c.in_err-judge.ensures)
