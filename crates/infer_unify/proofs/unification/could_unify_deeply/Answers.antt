use Rattle.std.proofs.Common.{refl}
use Rattle.infer_unify.specs.Own.{deeply}
use Rattle.infer_unify.proofs.Exact.{exact_test}
use Rattle.infer_unify.proofs.OneOutcome.{only_test, only_where_could}
use Rattle.infer_unify.proofs.unification.could_unify_deeply.Goals as goal

pub returns-clause-only : goal.returns-clause-only
returns-clause-only c =
    only_test deeply c.args.facts.now c.args.env c.args.pair.now.value.0 c.args.pair.now.value.1 c.deeply.result (c.in_ok-found.found, c.in_ok-found.ensures.becomes, c.deeply.ensures.is)

pub returns-clause-only_where_could : goal.returns-clause-only_where_could
returns-clause-only_where_could c =
    only_where_could c.args.facts.now c.args.env c.args.pair.now.value.0 c.args.pair.now.value.1 c.deeply.result (c.in_ok-found.found, c.in_ok-found.ensures.becomes, c.deeply.ensures.is)

pub returns-clause-exact : goal.returns-clause-exact
returns-clause-exact c = exact_test deeply c.args.pair.now.value.0 c.args.pair.now.value.1 c.in_ok-found.found c.deeply.result refl refl c.deeply.ensures.is c.in_ok-found.ensures.exact
