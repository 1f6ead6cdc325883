-- What this crate defines, from one place: for its code and proofs, and for the crates above.
pub use Rattle.hir_laws.specs.Binders.{AllBound, AreBinders, bound_binding, is_bound, is_self}
pub use Rattle.hir_laws.specs.Firsts.{AreFirsts, ComesAfter, IsBoundBelow, LocalsExist, and_number, binding_bound, comes_before}
pub use Rattle.hir_laws.specs.InBits.{AreNamedAs, ExprIsInBits, IsSmall, IsSomeones, LiteralsHold, PatIsLiteral, first_literal, last_literal}
pub use Rattle.hir_laws.specs.NewNames.{IsNew}
pub use Rattle.hir_laws.specs.Nodes.{bound_at, is_or, pattern_at, pattern_of}
pub use Rattle.hir_laws.specs.Parted.{AllParted, ArePartedBelow, AreParted, IsBinder, IsLast, IsPartedFrom, IsPartedSoFar, number}
pub use Rattle.hir_laws.specs.Places.{Agree, ArePlaces, FollowsAt, PlacesOnce, place_of}
pub use Rattle.hir_laws.specs.Refused.{Refuses}
pub use Rattle.hir_laws.specs.Targets.{AreAssigned, AreMarkedSoFar, PlacesFit, assigns_to, is_place, is_under, mark_by, pattern_index}
pub use Rattle.hir_laws.specs.Walked.{IsWalked}
pub use Rattle.hir_laws.specs.declared.facts_error.FactsError.{FactsError}
