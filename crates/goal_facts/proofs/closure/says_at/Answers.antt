use Rattle.std.proofs.Common.{sym, subst}
use Rattle.std.specs.Prelude.{Some, option_map}
use Rattle.goal_facts.specs.Words.{term_of, HasHeads, IsFieldAt}
use Rattle.goal_facts.proofs.Arguing.{heads_at_args}
use Rattle.goal_facts.proofs.closure.says_at.Goals as goal

pub returns-in-Some-clause-heads : goal.returns-in-Some-clause-heads
returns-in-Some-clause-heads c =
    let args = term_of c.args.args.now in
    let parts = term_of c.in_ok-goal.goal.parts in
    let at : IsFieldAt args parts (option_map term_of (Some c.in-Some.parts)) = subst (λ o. IsFieldAt args parts (option_map term_of o)) c.in-Some.is c.in_ok-parts.ensures in
    subst HasHeads (sym at.2) (heads_at_args args at.0 parts c.requires.args c.in_ok-goal.ensures.heads at.1)
