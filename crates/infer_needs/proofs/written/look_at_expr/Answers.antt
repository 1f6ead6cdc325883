use Rattle.std.proofs.Common.{List, map, subst, sym}
use Rattle.infer_needs.specs.Words.{Asked, asked_goal, system}
use Rattle.infer_needs.specs.Own.{AreProvable, Lists, GoalsAreListed}
use Rattle.infer_needs.proofs.Provable.{needed_here}
use Rattle.infer_needs.proofs.written.look_at_expr.Goals as goal

pub look_at_goals-requires-clause-provable : goal.look_at_goals-requires-clause-provable
look_at_goals-requires-clause-provable c =
    let all = needed_here c.args.sources.now.facts c.facts.result.now c.args.expr.now c.args.table.now.type_of_expr c.args.at c.in_ok-expr_id.field-0.0 c.in-Some.ty.now (map asked_goal c.in_ok-needed-in-Some.needed.items)
    c.in_ok-needed-in-Some.ensures c.facts.ensures c.in-Some.ensures c.in_ok-expr_id.ensures in
    subst (λ xs. AreProvable (map asked_goal xs)) (sym c.as_slice.ensures.value) (subst AreProvable (sym all) c.requires.provable)

pub returns-in_ok-look_at_goals-in-Some : goal.returns-in_ok-look_at_goals-in-Some
returns-in_ok-look_at_goals-in-Some c =
    let raw = c.args.sources.now.facts in
    let item = c.args.sources.now.item in
    let f = system c.args.sources.now.sources in
    let all = needed_here raw c.facts.result.now c.args.expr.now c.args.table.now.type_of_expr c.args.at c.in_ok-expr_id.field-0.0 c.in-Some.ty.now (map asked_goal c.in_ok-needed-in-Some.needed.items)
    c.in_ok-needed-in-Some.ensures c.facts.ensures c.in-Some.ensures c.in_ok-expr_id.ensures in
    subst (λ (xs : List Asked). Lists raw item f (GoalsAreListed f raw.limits.goal_depth xs) c.args.proofs.now.items c.look_at_goals.new.proofs.items c.args.found.now c.look_at_goals.new.found) all
    (rw c.as_slice.ensures.value at c.in_ok-look_at_goals-in-Some.ensures)
