use Rattle.std.proofs.Common.{sym, ap, ◌∙◌, ◌++◌, [], ◌∷◌}
use Rattle.hir_types.specs.declared.ty.GenericArg.TheVariants as arg
use Rattle.hir_types.specs.declared.head.Hole.TheVariants as hole_of
use Rattle.goal_prove.specs.Words.{log_of, term_of}
use Rattle.goal_prove.proofs.Words.{counted_more}
use Rattle.goal_prove.specs.Own.{type_or_unknown, fill_args, told_fill}
use Rattle.goal_prove.proofs.types.fill_args.Goals as goal

pub loop-number-preserved : goal.loop-number-preserved
loop-number-preserved c =
    let l = log_of c.args.fills.now in
    let h = term_of c.args.head.now in
    let n = c.loop-number.number in
    c.in_ok-push.ensures.ok
    ∙ (ap (λ xs. xs ++ arg.Ty c.in_ok-ty.ty ∷ []) c.loop-number.invariant
    ∙ (ap (λ t. fill_args l h n ++ arg.Ty t ∷ []) c.in_ok-ty.ensures ∙ sym (counted_more (λ k. arg.Ty (type_or_unknown (told_fill l h (hole_of.Ty k)))) n)))
