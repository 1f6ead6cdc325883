use Rattle.infer_goals.proofs.Sleeping.{all_awake}
use Rattle.infer_goals.proofs.obligations.Obligations.wake.Goals as goal

pub returns-clause-all : goal.returns-clause-all
returns-clause-all c f all =
    all_awake f all.earlier c.args.table.now c.args.self.now.tree c.args.self.now.asleep c.wake.new.self c.args.self.now.todo.items c.wake.new.todo.items all.grew all.since
    c.in_ok-wake.ensures.woken c.in_ok-wake.ensures.lists c.in_ok-wake.ensures.seen
