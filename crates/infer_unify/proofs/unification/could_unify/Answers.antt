use Rattle.std.proofs.Common.{refl}
use Rattle.infer_unify.specs.Own.{could}
use Rattle.infer_unify.proofs.Exact.{exact_test}
use Rattle.infer_unify.proofs.OneOutcome.{only_test}
use Rattle.infer_unify.proofs.unification.could_unify.Goals as goal

pub returns-clause-only : goal.returns-clause-only
returns-clause-only c =
    only_test could c.args.facts.now c.args.env c.args.pair.now.value.0 c.args.pair.now.value.1 c.could.result (c.in_ok-found.found, c.in_ok-found.ensures.becomes, c.could.ensures)

pub returns-clause-exact : goal.returns-clause-exact
returns-clause-exact c = exact_test could c.args.pair.now.value.0 c.args.pair.now.value.1 c.in_ok-found.found c.could.result refl refl c.could.ensures c.in_ok-found.ensures.exact
