use Rattle.std.proofs.Common.{rules, ◌≡◌, sym, ap, ◌∙◌, ◌++◌, [], ◌∷◌}
use Rattle.hir_types.specs.declared.ty.Ty.TheVariants as ty
use Rattle.hir_types.specs.declared.ty.GenericArg.TheVariants as arg
use Rattle.goal_facts.specs.Own.{own_params}
use Rattle.goal_facts.proofs.Arguing.{counted_more}
use Rattle.goal_facts.proofs.arguments.own_params.Goals as goal

pub loop-number-preserved : goal.loop-number-preserved
loop-number-preserved c =
    let same : c.in_ok-number.number ≡ c.loop-number.number = search rules in
    c.in_ok-push.ensures.ok
    ∙ (ap (λ xs. xs ++ arg.Ty (ty.Param c.in_ok-number.number) ∷ []) c.loop-number.invariant
    ∙ (ap (λ n. own_params c.loop-number.number ++ arg.Ty (ty.Param n) ∷ []) same
    ∙ sym (counted_more (λ k. arg.Ty (ty.Param k)) c.loop-number.number)))
