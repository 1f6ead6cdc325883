use Rattle.std.proofs.Common.{◌≡◌, ◌+◌, suc, subst, arith, IfOk}
use Rattle.goal_facts.specs.Words.{asked_of, system}
use Rattle.goal_facts.specs.Own.{asked_goal, IsAnswer}
use Rattle.goal_facts.proofs.Systems.{depth_is_small, answer_is}
use Rattle.goal_facts.proofs.item_sources.ItemSources.evaluate.Goals as goal

pub overflow_add-depth : goal.overflow_add-depth
overflow_add-depth c = let h = depth_is_small c.raw.result.now c.raw.ensures.lawful in omega (arith, h)

pub returns-clause-answer : goal.returns-clause-answer
returns-clause-answer c =
    let inside = c.self.inside in
    let depth = inside.facts.now.limits.goal_depth in
    let next : depth + 1 ≡ suc depth = omega arith in
    subst (λ q. IfOk c.evaluate.result (IsAnswer (system q.sources) q.facts.limits.goal_depth (asked_goal c.args.goal.now))) c.self.view_is
    (answer_is (system inside.sources) depth (depth + 1) (asked_of c.in_ok-goal.goal) (asked_goal c.args.goal.now) c.evaluate.result next c.in_ok-goal.ensures.is
    (rw (c.new.ensures, c.raw.ensures.value) at c.evaluate.ensures.answer))
