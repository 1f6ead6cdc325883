use Rattle.goal_terms.proofs.ReadBack.{taken_rest, taken_last}
use Rattle.goal_terms.proofs.types.take_last.Goals as goal

pub returns-in-Some-clause-rest : goal.returns-in-Some-clause-rest
returns-in-Some-clause-rest c = taken_rest c.args.types.now.items c.pop.new.self.items c.pop.result c.in-Some.ty c.pop.ensures.items c.in-Some.is

pub returns-in-Some-clause-last : goal.returns-in-Some-clause-last
returns-in-Some-clause-last c = taken_last c.args.types.now.items c.pop.new.self.items c.pop.result c.in-Some.ty c.pop.ensures.items c.in-Some.is
