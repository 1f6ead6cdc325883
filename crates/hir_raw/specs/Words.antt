-- What this crate takes from those below it.
pub use Rattle.hir_types.specs.Own.{with_params, param_at, types_args_replaced, replaced_adt, Replacement, replaced, integer_type}
pub use Rattle.hir_types.specs.declared.ids.AdtId.{AdtId}
pub use Rattle.hir_types.specs.declared.ids.BindingId.{BindingId}
pub use Rattle.hir_types.specs.declared.ids.CallableDefId.{CallableDefId}
pub use Rattle.hir_types.specs.declared.ids.ClosureId.{ClosureId}
pub use Rattle.hir_types.specs.declared.ids.DefWithBodyId.{DefWithBodyId}
pub use Rattle.hir_types.specs.declared.ids.ExprId.{ExprId}
pub use Rattle.hir_types.specs.declared.ids.ExprOrPatId.{ExprOrPatId}
pub use Rattle.hir_types.specs.declared.ids.GenericDefId.{GenericDefId}
pub use Rattle.hir_types.specs.declared.ids.LabelId.{LabelId}
pub use Rattle.hir_types.specs.declared.ids.OpaqueId.{OpaqueId}
pub use Rattle.hir_types.specs.declared.ids.PatId.{PatId}
pub use Rattle.hir_types.specs.declared.ids.TraitId.{TraitId}
pub use Rattle.hir_types.specs.declared.ids.TypeAliasId.{TypeAliasId}
pub use Rattle.hir_types.specs.declared.ids.TypeRefId.{TypeRefId}
pub use Rattle.hir_types.specs.declared.ids.VariantId.{VariantId}
pub use Rattle.hir_types.specs.declared.ty.AliasBound.{AliasBound, AliasBound-F}
pub use Rattle.hir_types.specs.declared.ty.Const.{Const}
pub use Rattle.hir_types.specs.declared.ty.FloatTy.{FloatTy}
pub use Rattle.hir_types.specs.declared.ty.GenericArg.{GenericArg, GenericArg-F, fold-GenericArg, fold-roll-GenericArg}
pub use Rattle.hir_types.specs.declared.ty.IntTy.{IntTy}
pub use Rattle.hir_types.specs.declared.ty.Mutability.{Mutability}
pub use Rattle.hir_types.specs.declared.ty.Region.{Region}
pub use Rattle.hir_types.specs.declared.ty.Safety.{Safety}
pub use Rattle.hir_types.specs.declared.ty.TraitRef.{TraitRef, TraitRef-F}
pub use Rattle.hir_types.specs.declared.ty.Ty.{Ty, Ty-F, fold-Ty, fold-roll-Ty}
pub use Rattle.hir_types.specs.declared.ty.UintTy.{UintTy}
