use Rattle.goal_search.specs.Words.{term_of}
use Rattle.goal_search.proofs.Words.{pair_of}
use Rattle.goal_search.specs.Own.{kind_of, asked_list}
use Rattle.goal_search.proofs.Small.{after_const}
use Rattle.goal_search.proofs.rows.+push_goals.Goals as goal

pub returns-in-Const : goal.returns-in-Const
returns-in-Const t c =
    let is = pair_of c.args.parts.now c.in-Pair.part c.in-Pair.rest c.get.result.now c.get-in-Const.result.now c.in-Pair.is c.get.ensures c.get-in-Const.ensures in
    after_const c.push_goals-in-Const.result (kind_of c.args.kind) (asked_list c.args.goals.now.items) _ (term_of c.args.parts.now) (term_of c.get.result.now) (term_of c.get-in-Const.result.now) is
    c.in-Const.ensures c.push_goals-in-Const.ensures
