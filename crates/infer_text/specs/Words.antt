-- What this crate takes from those below it.
pub use Rattle.hir_laws.specs.Words.hir_raw
pub use Rattle.hir_types.specs.declared.ids.AdtId.{AdtId}
pub use Rattle.hir_types.specs.declared.ids.BindingId.{BindingId}
pub use Rattle.hir_types.specs.declared.ids.BodyId.{BodyId}
pub use Rattle.hir_types.specs.declared.ids.ConstId.{ConstId}
pub use Rattle.hir_types.specs.declared.ids.DefWithBodyId.{DefWithBodyId}
pub use Rattle.hir_types.specs.declared.ids.ExprId.{ExprId}
pub use Rattle.hir_types.specs.declared.ids.FunctionId.{FunctionId}
pub use Rattle.hir_types.specs.declared.ids.ImplId.{ImplId}
pub use Rattle.hir_types.specs.declared.ids.LabelId.{LabelId}
pub use Rattle.hir_types.specs.declared.ids.ModuleId.{ModuleId}
pub use Rattle.hir_types.specs.declared.ids.PatId.{PatId}
pub use Rattle.hir_types.specs.declared.ids.StaticId.{StaticId}
pub use Rattle.hir_types.specs.declared.ids.TraitId.{TraitId}
pub use Rattle.hir_types.specs.declared.ids.TypeAliasId.{TypeAliasId}
pub use Rattle.hir_types.specs.declared.ids.TypeRefId.{TypeRefId}
pub use Rattle.hir_types.specs.declared.ids.VariantId.{VariantId}
pub use Rattle.hir_types.specs.declared.ty.IntTy.{IntTy}
pub use Rattle.hir_types.specs.declared.ty.IntegerTy.{IntegerTy}
pub use Rattle.hir_types.specs.declared.ty.Mutability.{Mutability}
pub use Rattle.hir_types.specs.declared.ty.UintTy.{UintTy}
pub use Rattle.hir_laws.specs.Words.{BindingAnnotation, Edition, Other, RawAdt, RawAdtKind, RawAlias, RawArgs, RawArm, RawAssocType, RawAt, RawBinding, RawBody, RawCtor, RawExpr, RawFacts, RawField, RawFn, RawGoal, RawImpl, RawLang, RawLimits, RawLiteral, RawParam, RawPat, RawPath, RawStmt, RawTrait, RawTraitRef, RawType, RawVariant, RawVis}
pub use Rattle.hir_laws.specs.Words.{FirstBroken, IsLawful, tests, FactsList, Law}
pub use Rattle.hir_laws.specs.Words.hir_raw.declared.later.ArithOp.{ArithOp}
pub use Rattle.hir_laws.specs.Words.hir_raw.declared.later.BinaryOp.{BinaryOp}
pub use Rattle.hir_laws.specs.Words.hir_raw.declared.later.CmpOp.{CmpOp}
pub use Rattle.hir_laws.specs.Words.hir_raw.declared.later.LaterExpr.{LaterExpr}
pub use Rattle.hir_laws.specs.Words.hir_raw.declared.later.LaterPat.{LaterPat}
pub use Rattle.hir_laws.specs.Words.hir_raw.declared.later.LaterPath.{LaterPath}
pub use Rattle.hir_laws.specs.Words.hir_raw.declared.later.LogicOp.{LogicOp}
pub use Rattle.hir_laws.specs.Words.hir_raw.declared.later.RawArg.{RawArg}
pub use Rattle.hir_laws.specs.Words.hir_raw.declared.later.RawClosureParam.{RawClosureParam}
pub use Rattle.hir_laws.specs.Words.hir_raw.declared.later.RawConst.{RawConst}
pub use Rattle.hir_laws.specs.Words.hir_raw.declared.later.RawRecordField.{RawRecordField}
pub use Rattle.hir_laws.specs.Words.hir_raw.declared.later.RawRecordFieldPat.{RawRecordFieldPat}
pub use Rattle.hir_laws.specs.Words.hir_raw.declared.later.RawVariantPath.{RawVariantPath}
pub use Rattle.hir_laws.specs.Words.hir_raw.declared.later.UnaryOp.{UnaryOp}
