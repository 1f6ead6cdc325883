use Rattle.std.proofs.Common.{◌+◌, ◌++◌, ◌∷◌, [], sym, subst}
use Rattle.hir_types.specs.declared.ty.GenericArg.TheVariants as arg
use Rattle.hir_types.specs.declared.ty.Ty.TheVariants as ty
use Rattle.infer_pat.specs.Words.{hole_count, scope_in, with_table}
use Rattle.infer_pat.specs.Own.{AreFreshArgs}
use Rattle.infer_pat.proofs.PathWalk.{fresh_start, fresh_more}
use Rattle.infer_pat.proofs.path.fresh_args_for_item.Goals as goal

pub loop-init : goal.loop-init
loop-init c = rw c.new-args.ensures (fresh_start c.args.context.now c.requires.sound)

pub loop-preserved : goal.loop-preserved
loop-preserved c =
    subst (λ xs. AreFreshArgs (scope_in c.args.given.now) (c.loop.counter + 1) xs c.args.context.now (with_table c.loop.context c.next_ty_var.new.self)) (sym c.in_ok-push.ensures.ok)
    (subst (λ t. AreFreshArgs (scope_in c.args.given.now) (c.loop.counter + 1) (c.loop.args ++ arg.Ty t ∷ []) c.args.context.now (with_table c.loop.context c.next_ty_var.new.self)) (sym c.in_ok-ty.ensures.hole)
    (subst (λ s. AreFreshArgs (scope_in c.args.given.now) (c.loop.counter + 1) (c.loop.args ++ arg.Ty (ty.Var (hole_count c.loop.context.goals.table)) ∷ []) c.args.context.now (with_table c.loop.context s)) (sym c.in_ok-ty.ensures.made)
    (fresh_more c.loop.counter c.loop.args c.args.context.now c.loop.context c.loop.invariant)))
