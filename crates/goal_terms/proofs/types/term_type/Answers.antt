use Rattle.goal_terms.specs.Own.{term_of}
use Rattle.goal_terms.proofs.ReadBack.{type_back}
use Rattle.goal_terms.proofs.types.term_type.Goals as goal

pub returns-clause-is : goal.returns-clause-is
returns-clause-is c = λ t. type_back c.in_ok-ty.ty (term_of c.args.from.now) t c.in_ok-ty.ensures
