-- What the crates above take from the crates below by way of this one, so that they need not list those too.
pub use Rattle.infer_end.specs.Ends.{ComesOfSelection}
pub use Rattle.infer_needs.specs.Fits.{EntriesFit, ProofsFit}
pub use Rattle.infer_needs.specs.Told.{RootsAreNeeded}
pub use Rattle.infer_end.specs.Staying.{NoneStays}
