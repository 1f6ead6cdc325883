-- What this crate defines, from one place: for its code and proofs, and for the crates above.
pub use Rattle.infer_coerce.specs.Coercions.{IsCoerced, IsCoercedIf, IsCoercedOrNot, IsCoercion, MayWait}
pub use Rattle.infer_coerce.specs.Common.{Completes, CompletesAs, IsFineCommon, Merges, MergesInto, common_of, common_under}
pub use Rattle.infer_coerce.specs.MadeEqual.{IsUnifiedIf, NoneIsKnown, SameOrDiffer, Settles, UnifiesAll, UnifiesEach, UnifiesFirst, UnifiesKnown, UnifiesNext, UnifiesOne}
pub use Rattle.infer_coerce.specs.Recursion.{InfersFrom}
pub use Rattle.infer_coerce.specs.declared.coerce_many.CoerceMany.{CoerceMany}
pub use Rattle.infer_coerce.specs.declared.coercion.Coerced.{Coerced}
pub use Rattle.infer_coerce.specs.declared.coercion.NotCoercible.{NotCoercible}
