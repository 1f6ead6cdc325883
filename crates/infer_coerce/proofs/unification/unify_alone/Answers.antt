use Rattle.std.proofs.Common.{subst}
use Rattle.infer_coerce.specs.Words.{AreUnifiedIf, given_of}
use Rattle.infer_coerce.proofs.Unified.{unified, refused}
use Rattle.infer_coerce.proofs.unification.unify_alone.Goals as goal

pub returns-then-branch : goal.returns-then-branch
returns-then-branch c =
    unified (given_of c.args.given.now) c.args.left.now c.args.right.now c.args.context.now c.requires.of_body c.requires.sound c.requires.left c.requires.right c.unify.new.self
    (subst (λ yes. AreUnifiedIf yes c.args.context.now.goals.table c.unify.new.self c.args.left.now c.args.right.now) c.if-branch.true c.in_ok-unify.ensures.unified)
    c.lawful.ensures.meets c.lawful.ensures.respects

pub returns-else-branch : goal.returns-else-branch
returns-else-branch c =
    refused (given_of c.args.given.now) c.args.left.now c.args.right.now c.args.context.now c.requires.of_body c.requires.sound c.requires.left c.requires.right c.unify.new.self
    (subst (λ yes. AreUnifiedIf yes c.args.context.now.goals.table c.unify.new.self c.args.left.now c.args.right.now) c.if-branch.false c.in_ok-unify.ensures.unified)
