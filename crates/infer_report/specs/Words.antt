-- What this crate takes from those below it.
pub use Rattle.hir_types.specs.declared.ids.AdtId.{AdtId}
pub use Rattle.hir_types.specs.declared.ids.CallableDefId.{CallableDefId}
pub use Rattle.hir_types.specs.declared.ids.ClosureId.{ClosureId}
pub use Rattle.hir_types.specs.declared.ids.OpaqueId.{OpaqueId}
pub use Rattle.hir_types.specs.declared.ids.TraitId.{TraitId}
pub use Rattle.hir_types.specs.declared.ids.TypeAliasId.{TypeAliasId}
pub use Rattle.hir_types.specs.declared.ty.AliasBound.{AliasBound}
pub use Rattle.hir_types.specs.declared.ty.Const.{Const}
pub use Rattle.hir_types.specs.declared.ty.FloatTy.{FloatTy}
pub use Rattle.hir_types.specs.declared.ty.GenericArg.{GenericArg, GenericArg-F, fold-roll-GenericArg}
pub use Rattle.hir_types.specs.declared.ty.IntTy.{IntTy}
pub use Rattle.hir_types.specs.declared.ty.Mutability.{Mutability}
pub use Rattle.hir_types.specs.declared.ty.Region.{Region}
pub use Rattle.hir_types.specs.declared.ty.Safety.{Safety}
pub use Rattle.hir_types.specs.declared.ty.TraitRef.{TraitRef}
pub use Rattle.hir_types.specs.declared.ty.Ty.{Ty, Ty-F, fold-roll-Ty}
pub use Rattle.hir_types.specs.declared.ty.UintTy.{UintTy}
pub use Rattle.infer_result.specs.Words.{adt_params, RawFacts, RawFn, RawVariant}
pub use Rattle.infer_result.specs.Own.{adt_own_count, adt_text, arg_text, args_text, binding_line, callable_text, complaint_count, complaints, const_text, def_line, diagnostic_line, expr_line, float_text, fn_own_count, gap_line, implements_text, int_text, joined, label_text, line, lines_from, mismatch_line, mode_text, own_args, own_count, pat_line, projection_text, ptr_text, ref_text, report, safety_text, separator, text_arg, text_bound, text_step, text_trait, tuple_text, ty_text, type_text, uint_text, variant_own_count, variant_text, gaps_at, recorded}
unfoldable pub use Rattle.infer_result.specs.Own.{counts_text, diagnostic_text, gap_text, goal_text, mismatch_head, node_text, type_field}
