use Rattle.std.specs.Option.{option_copied}
use Rattle.std.proofs.Common.{◌∙◌, ap, sym, subst}
use Rattle.hir_types.specs.declared.ids.CallableDefId.TheVariants as callable
use Rattle.hir_types.specs.declared.ty.Ty.TheVariants as ty
use Rattle.infer_pat.specs.Words.{fn_arity, given_of}
use Rattle.infer_pat.specs.Words.hir_raw.declared.raw.RawPath.TheVariants as path
use Rattle.infer_pat.specs.Own.{PathDone, AreFreshArgs, NamesTyped}
use Rattle.infer_pat.proofs.PathWalk.{local_path, fn_size, function_path, recorded_at}
use Rattle.infer_pat.proofs.path.infer_expr_path.Goals as goal

pub returns-in_ok-ty-in-Some : goal.returns-in_ok-ty-in-Some
returns-in_ok-ty-in-Some c =
    let g = given_of c.args.given.now in
    let old = c.args.context.now in
    let has = recorded_at _ _ (sym c.type_of_binding.ensures ∙ ap option_copied c.in-Some.is) in
    subst (λ p. PathDone g p c.in_ok-ty-in-Some.ty old old) (sym c.in-Local.is)
    (subst (λ t. PathDone g (path.Local c.in-Local.binding) t old old) (sym c.in_ok-ty-in-Some.ensures)
    (local_path g c.in-Local.binding c.in-Some.ty.now old c.requires.of_body c.requires.sound c.requires.told has))

pub returns-in_ok-args-in-Function : goal.returns-in_ok-args-in-Function
returns-in_ok-args-in-Function c =
    let g = given_of c.args.given.now in
    let f = c.in-Function.function in
    let old = c.args.context.now in
    let new = c.fresh_args_for_item.new.context in
    let item = subst (λ p. NamesTyped g old.result p) c.in-Function.is c.requires.names in
    let size = c.in_ok-params-in-Function.ensures ∙ (ap (λ types. fn_arity types c.fn_-item.result.now) c.types.ensures ∙ fn_size g f item _ c.fn_-item.ensures) in
    let fresh = subst (λ n. AreFreshArgs g.scope n c.in_ok-args-in-Function.args old new) size c.in_ok-args-in-Function.ensures in
    subst (λ p. PathDone g p (ty.FnDef (callable.FunctionId f) c.in_ok-args-in-Function.args) old new) (sym c.in-Function.is)
    (subst (λ xs. PathDone g (path.Function f) (ty.FnDef (callable.FunctionId f) xs) old new) (sym fresh.are) (function_path g f item fresh.types old new fresh.made))
