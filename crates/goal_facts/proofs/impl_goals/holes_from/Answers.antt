use Rattle.std.proofs.Common.{rules, ◌≡◌, ◌+◌, sym, ap, ◌∙◌, ◌++◌, [], ◌∷◌}
use Rattle.hir_types.specs.declared.ty.Ty.TheVariants as ty
use Rattle.hir_types.specs.declared.ty.GenericArg.TheVariants as arg
use Rattle.goal_facts.specs.Own.{holes_from}
use Rattle.goal_facts.proofs.Arguing.{counted_more}
use Rattle.goal_facts.proofs.impl_goals.holes_from.Goals as goal

pub loop-number-preserved : goal.loop-number-preserved
loop-number-preserved c =
    let first = c.args.first in
    let number = c.loop-number.number in
    let hole : c.in_ok-hole.hole ≡ first + number = search rules in
    c.in_ok-push.ensures.ok
    ∙ (ap (λ xs. xs ++ arg.Ty (ty.Var c.in_ok-hole.hole) ∷ []) c.loop-number.invariant
    ∙ (ap (λ k. holes_from first number ++ arg.Ty (ty.Var k) ∷ []) hole ∙ sym (counted_more (λ k. arg.Ty (ty.Var (first + k))) number)))
