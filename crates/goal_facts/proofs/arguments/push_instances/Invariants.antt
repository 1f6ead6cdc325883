use Rattle.std.proofs.Common.{◌≡◌, ◌++◌, take}
use Rattle.goal_facts.specs.Own.{instances}
use Rattle.goal_facts.proofs.arguments.push_instances.Given as goal

abbrev pub invariant-loop-ty : goal.invariant-loop-ty
invariant-loop-ty l = l.made ≡ l.fn.made ++ instances l.facts l.args (take l.ty-index l.tys)
