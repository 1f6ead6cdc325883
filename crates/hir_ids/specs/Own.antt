-- What this crate defines, from one place: for its code and proofs, and for the crates above.
pub use Rattle.hir_ids.specs.AliasListers.{AreAliasListers}
pub use Rattle.hir_ids.specs.InBody.{AreListers, AreOwners, BodyIdsHere}
pub use Rattle.hir_ids.specs.Marked.{AreMarked}
pub use Rattle.hir_ids.specs.Namers.{AreNamers, IsNamedBy, IsNobody, IsOne, and_one}
pub use Rattle.hir_ids.specs.declared.namers.Namers.{Namers}
