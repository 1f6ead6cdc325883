use Rattle.std.proofs.Common.{ap}
use Rattle.goal_facts.specs.Words.{kind_of, asked_of}
use Rattle.goal_facts.proofs.Typed.{trait_asks, projection_asks}
use Rattle.goal_facts.proofs.clauses.goal_of.Goals as goal

pub returns-in-Implements : goal.returns-in-Implements
returns-in-Implements c = trait_asks c.trait_goal.result (asked_of c.args.asked.now) c.in-Implements.id (ap kind_of c.in-Implements.is) c.trait_goal.ensures

pub returns-in-Projects : goal.returns-in-Projects
returns-in-Projects c = projection_asks c.projection_goal.result (asked_of c.args.asked.now) c.in-Projects.alias (ap kind_of c.in-Projects.is) c.projection_goal.ensures
