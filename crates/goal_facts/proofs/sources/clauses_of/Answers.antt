use Rattle.std.proofs.lemmas.Result.{IfOk-weaker}
use Rattle.goal_facts.specs.Words.{asked_list}
use Rattle.goal_facts.specs.Own.{Has, IsStated, IsClosure}
use Rattle.goal_facts.proofs.Systems.{closure_of}
use Rattle.goal_facts.proofs.sources.clauses_of.Goals as goal

pub returns-clause-is : goal.returns-clause-is
returns-clause-is c =
    let raw = c.args.facts.now in
    let start = asked_list c.in_ok-goals.goals.items in
    IfOk-weaker c.close.result (λ made. IsClosure raw (Has start) raw.limits.goal_depth (asked_list made.items)) (λ made. IsClosure raw (IsStated c.args.facts.now c.args.item) raw.limits.goal_depth (asked_list made.items))
    (λ made h. closure_of raw (IsStated c.args.facts.now c.args.item) start raw.limits.goal_depth (asked_list made.items) c.in_ok-goals.ensures h)
    (rw c.raw.ensures.value at c.close.ensures.is)
