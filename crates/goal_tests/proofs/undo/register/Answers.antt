use Rattle.std.proofs.Common.{sym, subst}
use Rattle.hir_types.specs.declared.head.Head.TheVariants as head
use Rattle.hir_types.specs.declared.ty.GenericArg.TheVariants as arg
use Rattle.goal_tests.specs.Words.{leaf, term, arg_term, arg_term_type, are_of_leaf, are_of_pair, HasMadeIf, AreOf, GoalIsOf}
use Rattle.goal_tests.proofs.undo.register.Goals as goal

-- the goal has the holes of the type, which the table made
pub register_obligation-requires-clause-goal : goal.register_obligation-requires-clause-goal
register_obligation-requires-clause-goal c =
    let s = c.args.goals.now.table in
    let kinds = s.substitution.kinds in
    let t = c.args.ty in
    let made : AreOf kinds (term t) = subst (λ b. HasMadeIf b s t) c.if-not-branch.false c.in_ok-has_made.ensures in
    let part = subst (AreOf kinds) (sym (arg_term_type t)) (are_of_pair kinds (leaf head.TypePart) (term t) (are_of_leaf kinds head.TypePart) made) in
    let parts = are_of_pair kinds (arg_term (arg.Ty t)) (leaf head.End) part (are_of_leaf kinds head.End) in
    subst (GoalIsOf s) (sym c.in_ok-implements.ensures) parts
