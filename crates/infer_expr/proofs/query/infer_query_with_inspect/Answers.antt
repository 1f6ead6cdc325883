use Rattle.std.proofs.Common.{refl}
use Rattle.std.proofs.lemmas.Result.{IfOk-weaker}
use Rattle.infer_expr.proofs.query.infer_query_with_inspect.Goals as goal

pub returns-in-Some-clause-told : goal.returns-in-Some-clause-told
returns-in-Some-clause-told g c = rw c.in-Some.is (IfOk-weaker c.infer_told.result _ _ (λ table hears b is. (refl, hears b is)) c.infer_told.ensures.told)
