use Rattle.std.proofs.Common.{sym, subst, IfOk, []}
use Rattle.goal_terms.specs.Words.{UnifiedIf}
use Rattle.goal_terms.specs.Own.{term_of, HasHeads, log_of}
use Rattle.goal_terms.proofs.Sames.{moved_heads, after_moved}
use Rattle.goal_terms.proofs.same.can_be_same.Goals as goal

pub make_equal-requires-clause-left : goal.make_equal-requires-clause-left
make_equal-requires-clause-left c = subst HasHeads (sym c.in_ok-moved.ensures) (moved_heads c.in_ok-by.by (term_of c.args.left.now) c.requires.left)

pub returns : goal.returns
returns c =
    let l = log_of c.make_equal.new.log.items in
    let v = term_of c.in_ok-moved.moved in
    let w = term_of c.args.right.now in
    let unified : IfOk c.make_equal.result (λ yes. UnifiedIf yes [] l v w) = subst (λ (xs : _). IfOk c.make_equal.result (λ yes. UnifiedIf yes (log_of xs) l v w)) c.new-log.ensures.items c.make_equal.ensures.unified in
    after_moved c.make_equal.result c.in_ok-by.by (term_of c.args.left.now) v w l c.in_ok-by.ensures
    c.make_equal.ensures.extends.is_log.triangular c.in_ok-moved.ensures unified
