use Rattle.std.proofs.Common.{◌∙◌, ap, sym, subst}
use Rattle.hir_types.specs.declared.ids.CallableDefId.TheVariants as callable
use Rattle.hir_types.specs.declared.ty.Ty.TheVariants as ty
use Rattle.infer_pat.specs.Words.{type_args, RawVariant, given_of}
use Rattle.infer_pat.specs.Words.hir_raw.declared.raw.RawPath.TheVariants as path
use Rattle.infer_pat.specs.Own.{PathDone}
use Rattle.infer_pat.proofs.PathWalk.{ctor_holed, unit_path, tuple_path}
use Rattle.infer_pat.proofs.path.infer_ctor_path.Goals as goal

pub returns-in-Unit : goal.returns-in-Unit
returns-in-Unit c =
    let g = given_of c.args.given.now in
    let x = c.requires.named in
    let y = c.variant-item.result.now in
    let old = c.args.context.now in
    let new = c.fresh_args_for_item.new.context in
    let h = ctor_holed g c.args.variant x y c.adt.result.now c.len-params.result c.in_ok-arity.arity c.types.result.now c.in_ok-args.args old new c.variant-item.ensures c.adt.ensures c.len-params.ensures c.types.ensures c.in_ok-arity.ensures c.in_ok-args.ensures in
    subst (λ xs. PathDone g (path.Ctor c.args.variant) (ty.Adt y.adt xs) old new) (sym h.fresh.are)
    (subst (λ (z : RawVariant). PathDone g (path.Ctor c.args.variant) (ty.Adt z.adt (type_args h.fresh.types)) old new) (sym h.same)
    (unit_path g c.args.variant x h.fresh.types old new h.fresh.made (ap (λ z. z.ctor) (sym h.same) ∙ c.in-Unit.is)))

pub returns-in-Tuple : goal.returns-in-Tuple
returns-in-Tuple c =
    let g = given_of c.args.given.now in
    let x = c.requires.named in
    let y = c.variant-item.result.now in
    let old = c.args.context.now in
    let new = c.fresh_args_for_item.new.context in
    let h = ctor_holed g c.args.variant x y c.adt.result.now c.len-params.result c.in_ok-arity.arity c.types.result.now c.in_ok-args.args old new c.variant-item.ensures c.adt.ensures c.len-params.ensures c.types.ensures c.in_ok-arity.ensures c.in_ok-args.ensures in
    subst (λ xs. PathDone g (path.Ctor c.args.variant) (ty.FnDef (callable.VariantId c.args.variant) xs) old new) (sym h.fresh.are)
    (tuple_path g c.args.variant x h.fresh.types old new h.fresh.made (ap (λ z. z.ctor) (sym h.same) ∙ c.in-Tuple.is))
