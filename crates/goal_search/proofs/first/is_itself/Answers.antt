use Rattle.std.proofs.Common.{true≢false, sym, ap, ◌∙◌, subst, MatchBool}
use Rattle.goal_search.specs.Words.{pair, staying, projects, IsNeverItself, term_of, CanBeItself}
use Rattle.goal_search.proofs.Words.{pair_of}
use Rattle.goal_search.specs.Own.{kind_of}
use Rattle.goal_search.proofs.Small.{itself_open}
use Rattle.goal_search.proofs.first.is_itself.Goals as goal

pub returns-then-branch : goal.returns-then-branch
returns-then-branch c =
    let k = c.in-Projects.alias in
    let a = term_of c.get-3.result.now in
    let b = term_of c.get-4.result.now in
    let is = pair_of c.args.target.now c.in-Pair.args c.in-Pair.ty c.get-3.result.now c.get-4.result.now c.in-Pair.is c.get-3.ensures c.get-4.ensures in
    let can = subst (λ yes. MatchBool yes (CanBeItself k a b) (IsNeverItself (projects k) (pair a b))) c.if-branch.true c.in_ok-can_be_itself.ensures in
    let made = c.in_ok-staying_term.ensures ∙ ap (λ x. staying k (term_of x)) (c.get.ensures ∙ sym c.get-3.ensures) in
    itself_open (kind_of c.args.kind) k (term_of c.args.target.now) a b (ap kind_of c.in-Projects.is) is
    (λ e. true≢false (sym (c.is_same.ensures.1 (made ∙ e ∙ ap term_of (c.get-4.ensures ∙ sym c.get-2.ensures))) ∙ c.if-is_same.false)) can
