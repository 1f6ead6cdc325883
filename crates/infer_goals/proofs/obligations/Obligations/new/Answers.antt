use Rattle.infer_goals.proofs.Sleeping.{none_open}
use Rattle.infer_goals.proofs.obligations.Obligations.new.Goals as goal

pub returns-clause-all : goal.returns-clause-all
returns-clause-all c f s = none_open f s _ c.new.ensures.tree c.new.ensures.none c.new-2.ensures.items c.new-3.ensures.asleep c.new-3.ensures.seen
