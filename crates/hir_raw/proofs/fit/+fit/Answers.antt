use Rattle.std.proofs.Common.{rules}
use Rattle.hir_raw.specs.Own.{Scope, types_scope, ty_fits_tuple, ty_fits_adt, ty_fits_fndef, fits_alias, fits_inputs}
use Rattle.hir_raw.proofs.fit.+fit.Goals as goal

pub ty_fits-returns-in-Tuple : goal.ty_fits-returns-in-Tuple
ty_fits-returns-in-Tuple t c =
    let sc : Scope = types_scope c.args.raw.now c.args.params in
    rw (c.in-Tuple.is, ty_fits_tuple sc _) c.all_fit.ensures

pub ty_fits-returns-then-has_params : goal.ty_fits-returns-then-has_params
ty_fits-returns-then-has_params t c =
    let sc : Scope = types_scope c.args.raw.now c.args.params in
    rw (c.in-Adt.is, ty_fits_adt sc _ _) (search (rules, c.adt_params.ensures, c.has_params.ensures, c.args_fit.ensures))

pub ty_fits-returns-else-has_params : goal.ty_fits-returns-else-has_params
ty_fits-returns-else-has_params t c =
    let sc : Scope = types_scope c.args.raw.now c.args.params in
    rw (c.in-Adt.is, ty_fits_adt sc _ _) (search (rules, c.adt_params.ensures, c.has_params.ensures))

pub ty_fits-returns-then-callable_has_params : goal.ty_fits-returns-then-callable_has_params
ty_fits-returns-then-callable_has_params t c =
    let sc : Scope = types_scope c.args.raw.now c.args.params in
    rw (c.in-FnDef.is, ty_fits_fndef sc _ _) (search (rules, c.callable_has_params.ensures))

pub ty_fits-returns-else-callable_has_params : goal.ty_fits-returns-else-callable_has_params
ty_fits-returns-else-callable_has_params t c =
    let sc : Scope = types_scope c.args.raw.now c.args.params in
    rw (c.in-FnDef.is, ty_fits_fndef sc _ _) (search (rules, c.callable_has_params.ensures))

pub ty_fits-returns-then-has_params-2 : goal.ty_fits-returns-then-has_params-2
ty_fits-returns-then-has_params-2 t c =
    let sc : Scope = types_scope c.args.raw.now c.args.params in
    rw (fits_alias sc _ _ _ c.in-Projection.is) (search (rules, c.alias_params.ensures, c.has_params-in-Projection.ensures, c.args_fit-then-has_params-2.ensures))

pub ty_fits-returns-else-has_params-2 : goal.ty_fits-returns-else-has_params-2
ty_fits-returns-else-has_params-2 t c =
    let sc : Scope = types_scope c.args.raw.now c.args.params in
    rw (fits_alias sc _ _ _ c.in-Projection.is) (search (rules, c.alias_params.ensures, c.has_params-in-Projection.ensures))

pub ty_fits-returns-then-all_fit : goal.ty_fits-returns-then-all_fit
ty_fits-returns-then-all_fit t c =
    let sc : Scope = types_scope c.args.raw.now c.args.params in
    rw (fits_inputs sc _ _ _ c.in-FnPtr.is) (search (rules, c.all_fit-in-FnPtr.ensures, c.ty_fits-then-all_fit.ensures))

pub ty_fits-returns-else-all_fit : goal.ty_fits-returns-else-all_fit
ty_fits-returns-else-all_fit t c =
    let sc : Scope = types_scope c.args.raw.now c.args.params in
    rw (fits_inputs sc _ _ _ c.in-FnPtr.is) (search (rules, c.all_fit-in-FnPtr.ensures))
