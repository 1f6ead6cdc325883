use Rattle.std.proofs.Common.{◌≡◌, sym, subst, map}
use Rattle.std.proofs.lemmas.Result.{IfOk-weaker}
use Rattle.goal_facts.specs.Words.{chain, arg_term, term_of, IsHead}
use Rattle.goal_facts.proofs.Arguing.{list_is_head}
use Rattle.goal_facts.proofs.arguments.args_at.Goals as goal

pub returns-clause-head : goal.returns-clause-head
returns-clause-head c =
    IfOk-weaker c.args_term.result (λ made. term_of made ≡ chain (map arg_term c.push_instances.new.made)) (λ made. IsHead (term_of made))
    (λ made is. subst IsHead (sym is) (list_is_head c.push_instances.new.made))
    c.args_term.ensures.is
