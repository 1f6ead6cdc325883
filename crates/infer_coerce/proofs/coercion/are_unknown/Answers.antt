use Rattle.infer_coerce.proofs.Unified.{unknown_at}
use Rattle.infer_coerce.proofs.coercion.are_unknown.Goals as goal

pub returns-in-Var-Var : goal.returns-in-Var-Var
returns-in-Var-Var c = λ yes n. record {
  source = unknown_at c.args.context.now.goals.table c.args.source.now c.shallow_resolve.result.now c.in-Var-Var.source c.shallow_resolve.ensures.same c.shallow_resolve.ensures.open c.in-Var-Var.is-0;
  target = unknown_at c.args.context.now.goals.table c.args.target.now c.shallow_resolve-2.result.now c.in-Var-Var.target c.shallow_resolve-2.ensures.same c.shallow_resolve-2.ensures.open c.in-Var-Var.is-1;
}
