use Rattle.std.proofs.Common.{subst, IfOk, []}
use Rattle.goal_terms.specs.Words.{UnifiedIf}
use Rattle.goal_terms.specs.Own.{term_of, log_of}
use Rattle.goal_terms.proofs.Sames.{after_staying}
use Rattle.goal_terms.proofs.same.can_be_itself.Goals as goal

pub returns : goal.returns
returns c =
    let l = log_of c.make_equal.new.log.items in
    let t = term_of c.args.ty.now in
    let v = term_of c.in_ok-itself.itself in
    let unified : IfOk c.make_equal.result (λ yes. UnifiedIf yes [] l t v) = subst (λ (xs : _). IfOk c.make_equal.result (λ yes. UnifiedIf yes (log_of xs) l t v)) c.new-log.ensures.items c.make_equal.ensures.unified in
    after_staying c.make_equal.result c.args.alias (term_of c.args.args.now) t v l
    c.make_equal.ensures.extends.is_log.triangular c.in_ok-itself.ensures unified
