-- What this crate defines, from one place: for its code and proofs, and for the crates above.
pub use Rattle.hir_walk.specs.Enclosed.{AreAround, AreNodes, AreOpen, IsAround, IsAroundFrom, IsInnermost, IsOf, IsOpen}
pub use Rattle.hir_walk.specs.Numbered.{AreNumbered, IsNumber, last_or_none}
