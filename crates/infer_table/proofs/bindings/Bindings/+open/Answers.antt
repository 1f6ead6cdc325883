use Rattle.infer_table.specs.Words.{AliasBound}
use Rattle.hir_types.specs.declared.ty.Ty.TheVariants as ty
use Rattle.hir_types.specs.declared.ty.GenericArg.TheVariants as arg
use Rattle.std.proofs.Common.{refl}
use Rattle.infer_table.specs.Own.{opens_tuple, opens_array, opens_adt, opens_fn_def, opens_associated_type, opens_fn_ptr, opens_closure, opens_arg_const, origins_of, makes_both}
use Rattle.infer_table.proofs.Openings.{types_step, args_step, bounds_step, opens_same, arg_same, dynamic_copied}
use Rattle.infer_table.proofs.bindings.Bindings.+open.Goals as goal

pub open_arg-returns-in_ok-open_const-in-Const-clause-opens : goal.open_arg-returns-in_ok-open_const-in-Const-clause-opens
open_arg-returns-in_ok-open_const-in-Const-clause-opens t c =
    arg_same c.args.arg.now (arg.Const c.in-Const.value) c.in-Const.is
    (opens_arg_const c.in-Const.value c.in_ok-open_const-in-Const.field-0 (c.in_ok-open_const-in-Const.ensures.opens (origins_of c.args.found.now.items)))

pub open_type-returns-in_ok-open_types-in-Tuple-clause-opens : goal.open_type-returns-in_ok-open_types-in-Tuple-clause-opens
open_type-returns-in_ok-open_types-in-Tuple-clause-opens t c =
    opens_same c.args.ty.now (ty.Tuple c.in-Tuple.types) c.in-Tuple.is
    (opens_tuple c.in-Tuple.types c.in_ok-open_types-in-Tuple.field-0 c.in_ok-open_types-in-Tuple.ensures.opens)

pub open_type-returns-in_ok-open_const-in-Array-clause-opens : goal.open_type-returns-in_ok-open_const-in-Array-clause-opens
open_type-returns-in_ok-open_const-in-Array-clause-opens t c =
    opens_same c.args.ty.now (ty.Array c.in-Array.ty c.in-Array.length) c.in-Array.is
    (opens_array c.in-Array.ty c.in_ok-ty-in-Array.ty c.in-Array.length c.in_ok-open_const-in-Array.field-0
    c.in_ok-ty-in-Array.ensures.opens (c.in_ok-open_const-in-Array.ensures.opens (origins_of c.open_boxed.new.found.items)))

pub open_type-returns-in_ok-open_args-in-Adt-clause-opens : goal.open_type-returns-in_ok-open_args-in-Adt-clause-opens
open_type-returns-in_ok-open_args-in-Adt-clause-opens t c =
    opens_same c.args.ty.now (ty.Adt c.in-Adt.id c.in-Adt.args) c.in-Adt.is
    (opens_adt c.in-Adt.id c.in-Adt.args c.in_ok-open_args-in-Adt.field-0 c.in_ok-open_args-in-Adt.ensures.opens)

pub open_type-returns-in_ok-open_args-in-FnDef-clause-opens : goal.open_type-returns-in_ok-open_args-in-FnDef-clause-opens
open_type-returns-in_ok-open_args-in-FnDef-clause-opens t c =
    opens_same c.args.ty.now (ty.FnDef c.in-FnDef.id c.in-FnDef.args) c.in-FnDef.is
    (opens_fn_def c.in-FnDef.id c.in-FnDef.args c.in_ok-open_args-in-FnDef.field-0 c.in_ok-open_args-in-FnDef.ensures.opens)

pub open_type-returns-in_ok-open_args-in-AssociatedType-clause-opens : goal.open_type-returns-in_ok-open_args-in-AssociatedType-clause-opens
open_type-returns-in_ok-open_args-in-AssociatedType-clause-opens t c =
    opens_same c.args.ty.now (ty.AssociatedType c.in-AssociatedType.id c.in-AssociatedType.args) c.in-AssociatedType.is
    (opens_associated_type c.in-AssociatedType.id c.in-AssociatedType.args c.in_ok-open_args-in-AssociatedType.field-0 c.in_ok-open_args-in-AssociatedType.ensures.opens)

pub open_type-returns-in_ok-output-in-FnPtr-clause-opens : goal.open_type-returns-in_ok-output-in-FnPtr-clause-opens
open_type-returns-in_ok-output-in-FnPtr-clause-opens t c =
    opens_same c.args.ty.now (ty.FnPtr c.in-FnPtr.safety c.in-FnPtr.inputs c.in-FnPtr.output) c.in-FnPtr.is
    (opens_fn_ptr c.in-FnPtr.safety c.in-FnPtr.inputs c.in_ok-inputs-in-FnPtr.inputs c.in-FnPtr.output c.in_ok-output-in-FnPtr.output
    c.in_ok-inputs-in-FnPtr.ensures.opens c.in_ok-output-in-FnPtr.ensures.opens)

pub open_type-returns-in_ok-output-in-Closure-clause-opens : goal.open_type-returns-in_ok-output-in-Closure-clause-opens
open_type-returns-in_ok-output-in-Closure-clause-opens t c =
    opens_same c.args.ty.now (ty.Closure c.in-Closure.id c.in-Closure.inputs c.in-Closure.output) c.in-Closure.is
    (opens_closure c.in-Closure.id c.in-Closure.inputs c.in_ok-inputs-in-Closure.inputs c.in-Closure.output c.in_ok-output-in-Closure.output
    c.in_ok-inputs-in-Closure.ensures.opens c.in_ok-output-in-Closure.ensures.opens)

pub open_type-returns-in_ok-copied-in-Dynamic-clause-opens : goal.open_type-returns-in_ok-copied-in-Dynamic-clause-opens
open_type-returns-in_ok-copied-in-Dynamic-clause-opens t c =
    opens_same c.args.ty.now (ty.Dynamic c.in-Dynamic.principal c.in-Dynamic.projections c.in-Dynamic.auto_traits) c.in-Dynamic.is
    (dynamic_copied c.in-Dynamic.principal c.in_ok-principal-in-Dynamic.principal c.in-Dynamic.projections c.in_ok-projections-in-Dynamic.projections
    c.in-Dynamic.auto_traits c.in_ok-copied-in-Dynamic.field-0 c.in_ok-copied-in-Dynamic.ensures
    c.in_ok-principal-in-Dynamic.ensures.opens c.in_ok-projections-in-Dynamic.ensures.opens)

pub open_types-loop-ty-preserved : goal.open_types-loop-ty-preserved
open_types-loop-ty-preserved t c = record {
  makes = makes_both c.loop-ty.invariant.makes c.open_type.ensures.makes;
  opens = types_step c.args.types.now c.as_slice-ty-items.result.now c.loop-ty.made c.push.new.self c.loop-ty.ty-index c.ty-item.result c.in_ok-open_type.field-0
      c.as_slice-ty-items.ensures c.loop-ty-test.true c.ty-item.is c.in_ok-push.ensures.ok c.loop-ty.invariant.opens c.in_ok-open_type.ensures.opens;
}

pub open_args-loop-arg-preserved : goal.open_args-loop-arg-preserved
open_args-loop-arg-preserved t c = record {
  makes = makes_both c.loop-arg.invariant.makes c.open_arg.ensures.makes;
  opens = args_step c.args.args.now c.as_slice-arg-items.result.now c.loop-arg.made c.push.new.self c.loop-arg.arg-index c.arg-item.result c.in_ok-open_arg.field-0
      c.as_slice-arg-items.ensures c.loop-arg-test.true c.arg-item.is c.in_ok-push.ensures.ok c.loop-arg.invariant.opens c.in_ok-open_arg.ensures.opens;
}

pub open_bounds-loop-bound-preserved : goal.open_bounds-loop-bound-preserved
open_bounds-loop-bound-preserved t c =
    let made : AliasBound = record { alias = c.bound-item.result.alias; ty = c.in_ok-ty.ty } in
    record {
      makes = makes_both c.loop-bound.invariant.makes c.open_type.ensures.makes;
      opens = bounds_step c.args.bounds.now c.as_slice-bound-items.result.now c.loop-bound.made c.push.new.self c.loop-bound.bound-index c.bound-item.result made
          c.as_slice-bound-items.ensures c.loop-bound-test.true c.bound-item.is c.in_ok-push.ensures.ok c.loop-bound.invariant.opens refl c.in_ok-ty.ensures.opens;
    }
