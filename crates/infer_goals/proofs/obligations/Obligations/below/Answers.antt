use Rattle.std.proofs.Common.{arith}
use Rattle.infer_goals.proofs.SelfTy.{children_within}
use Rattle.infer_goals.proofs.obligations.Obligations.below.Goals as goal

pub standing-requires : goal.standing-requires
standing-requires c = (let many = c.requires.tree.as_many in let at = c.requires.at in omega (arith, many, at))

pub returns-clause-within : goal.returns-clause-within
returns-clause-within c = children_within c.args.self.now.tree c.requires.tree c.args.at c.standing.result.now c.children.result c.standing.ensures c.children.ensures
