-- What this crate takes from those below it.
pub use Rattle.hir_ids.specs.Words.hir_raw
pub use Rattle.hir_ids.specs.Words.hir_facts
pub use Rattle.hir_types.specs.declared.ids.TypeRefId.{TypeRefId}
pub use Rattle.hir_types.specs.declared.ids.VariantId.{VariantId}
pub use Rattle.hir_ids.specs.Words.{is_alias, type_parts, RawAdt, RawFacts, RawField, RawFn, RawType, RawVariant}
pub use Rattle.hir_ids.specs.Words.{IsVariantOf, ItemExists, IsLawful, adt_ids, type_ids, type_ids_exist, types_small, In, in_first, in_last, IsPlainAdt, IsPlainKind, IsPlainSet, IsPlainSignature, IsPlainType, IsPlainWhere, adt_fields, fields_by, has_plain_header, has_plain_params, is_plain_adt_kind, ArePlainMarks, ArePlainNodes, IsMarked, IsNoProjection, is_one, FitsThere, FitsUnder, OwnFits, fields_fit, fits_direct, inputs_fit, output_fits, own_fits, parts_fit}
pub use Rattle.hir_ids.specs.Words.{Edge, KidsFit, kids_of}
