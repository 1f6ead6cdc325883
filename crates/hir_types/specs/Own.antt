-- What this crate defines, from one place: for its code and proofs, and for the crates above.
pub use Rattle.hir_types.specs.Agreement.{SameAt, const_folded_absent, folded_absent, folded_agree}
pub use Rattle.hir_types.specs.Assigned.{arg_as_type, assignment_of, first_for, with_params}
pub use Rattle.hir_types.specs.Erasure.{IsClosed, Same, arg_erased, erased, erased_step, has_hole, hole_arg, hole_bound, hole_const, hole_step, hole_trait, no_label, so_or_none}
pub use Rattle.hir_types.specs.Faithful.{ReadPart, all_but_last, arg_of, auto_before, autos_of, bound_before, bounds_of, const_of, const_of_term, const_read, const_term_tells, erased_steps, erased_tells, erasing, first_const, first_type, leading_args, mark, principal_of, read, read_const, read_part, read_type, term_erased, term_read, term_tells, type_of_hole, type_of_term, types, unread}
pub use Rattle.hir_types.specs.Fallback.{fallback}
pub use Rattle.hir_types.specs.FoldedLaws.{goal_itself}
pub use Rattle.hir_types.specs.Folds.{GoBySteps, Maps, Steps, folds, folds_follow, in_arg, in_arg_twice, in_bound, in_trait, in_ty, in_ty_twice, map_twice, maps_after, unique}
pub use Rattle.hir_types.specs.Goals.{goal_replaced}
pub use Rattle.hir_types.specs.Instances.{fn_def_tells, instance_at_types, instance_folded, param_at, types_args_folded, types_args_replaced}
pub use Rattle.hir_types.specs.Outlines.{outline_term, part_term, part_terms}
pub use Rattle.hir_types.specs.Replacements.{arg_replaced_type, args_folded_itself, at_arg, at_ty, bound_replaced_is, const_folded_twice, folded_itself, folded_twice, replaced_adt, replaced_array, replaced_associated_type, replaced_bool, replaced_char, replaced_error, replaced_fn_def, replaced_int, replaced_int_var, replaced_param, replaced_tuple, replaced_uint, replaced_var, replacing, same_assignments, trait_folded_itself, trait_replaced_is}
pub use Rattle.hir_types.specs.Subst.{Assignment, Replacement, arg_folded, arg_layer, arg_replaced, args_replaced, bound_replaced, composed, const_folded, const_replaced, each_itself, folded, replaced, trait_folded, trait_replaced, ty_layer, with_holes}
pub use Rattle.hir_types.specs.TermLaws.{arg_term_at, arg_term_const, arg_term_type, args_terms, bound_parts_is, const_term_folded, parts_of_types, term_adt, term_adt_types, term_array, term_associated_type, term_associated_types, term_at, term_bool, term_char, term_closure, term_dynamic, term_error, term_float, term_fn_def, term_fn_def_types, term_fn_ptr, term_folded, term_hole, term_int, term_int_var, term_never, term_opaque, term_param, term_projection, term_raw_ptr, term_ref, term_slice, term_str, term_tuple, term_uint, term_var, terms, trait_parts_is}
pub use Rattle.hir_types.specs.Terms.{IsInt, Term, apply, arg_step, arg_term, auto_parts, bound_parts, bound_step, chain, const_part, const_term, hole, hole_eq, hole_number, leaf, node, occurs, pair, principal_parts, term, terms_of, trait_parts, trait_step, ty_step, type_part}
pub use Rattle.hir_types.specs.Types.{depth, integer_type, measured, measured_arg, measured_bound, measured_step, measured_trait, most, size, unit}
pub use Rattle.hir_types.specs.declared.ids.AdtId.{AdtId}
pub use Rattle.hir_types.specs.declared.ids.CallableDefId.{CallableDefId}
pub use Rattle.hir_types.specs.declared.ids.ClosureId.{ClosureId}
pub use Rattle.hir_types.specs.declared.ids.OpaqueId.{OpaqueId}
pub use Rattle.hir_types.specs.declared.ids.TraitId.{TraitId}
pub use Rattle.hir_types.specs.declared.ids.TypeAliasId.{TypeAliasId}
pub use Rattle.hir_types.specs.declared.ty.AliasBound.{AliasBound, AliasBound-F, map-AliasBound, roll-AliasBound}
pub use Rattle.hir_types.specs.declared.ty.Const.{Const}
pub use Rattle.hir_types.specs.declared.ty.FloatTy.{FloatTy}
pub use Rattle.hir_types.specs.declared.ty.GenericArg.{GenericArg, GenericArg-F, fold-GenericArg, fold-roll-GenericArg, map-GenericArg, out-roll-GenericArg, roll-GenericArg}
pub use Rattle.hir_types.specs.declared.ty.IntTy.{IntTy}
pub use Rattle.hir_types.specs.declared.ty.IntegerTy.{IntegerTy}
pub use Rattle.hir_types.specs.declared.ty.Mutability.{Mutability}
pub use Rattle.hir_types.specs.declared.ty.Region.{Region}
pub use Rattle.hir_types.specs.declared.ty.Safety.{Safety}
pub use Rattle.hir_types.specs.declared.ty.TraitRef.{TraitRef, TraitRef-F, map-TraitRef, roll-TraitRef}
pub use Rattle.hir_types.specs.declared.ty.Ty.{Ty, Ty-F, fold-roll-Ty, ind-Ty, map-Ty, out-roll-Ty, roll-Ty}
pub use Rattle.hir_types.specs.declared.ty.UintTy.{UintTy}
