use Rattle.std.proofs.Common.{subst}
use Rattle.infer_coerce.specs.Words.{given_of}
use Rattle.infer_coerce.specs.Own.{IsUnifiedIf}
use Rattle.infer_coerce.proofs.Unified.{unified_later}
use Rattle.infer_coerce.proofs.unification.unify.Goals as goal

pub returns-in_ok-unify_known-clause-unified : goal.returns-in_ok-unify_known-clause-unified
returns-in_ok-unify_known-clause-unified c =
    unified_later (given_of c.args.given.now) c.args.left.now c.args.right.now c.args.context.now c.unify_alone.new.context c.unify_known.new.context
    (subst (λ yes. IsUnifiedIf yes (given_of c.args.given.now) c.args.left.now c.args.right.now c.args.context.now c.unify_alone.new.context) c.if-branch.true c.in_ok-unify_alone.ensures)
    c.in_ok-unify_known.ensures.binds
