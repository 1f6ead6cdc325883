use Rattle.std.proofs.Common.{sym, subst}
use Rattle.goal_facts.specs.Words.{term_of, IsHead}
use Rattle.goal_facts.proofs.Arguing.{list_is_head}
use Rattle.goal_facts.proofs.goals.asked.Goals as goal

pub returns-in_ok-join-in-Projection-clause-heads : goal.returns-in_ok-join-in-Projection-clause-heads
returns-in_ok-join-in-Projection-clause-heads c =
    let head : IsHead (term_of c.in_ok-args-in-Projection.args) = subst IsHead (sym c.in_ok-args-in-Projection.ensures.is) (list_is_head c.in-Projection.args) in
    c.in_ok-join-in-Projection.ensures.heads (head, c.in_ok-args-in-Projection.ensures.heads, c.in_ok-ty-in-Projection.ensures.heads)
