-- What this crate defines, from one place: for its code and proofs, and for the crates above.
pub use Rattle.infer_end.specs.Ends.{ComesOfSelection, EndsAs, EndsWell, IsSelectedBody}
pub use Rattle.infer_end.specs.KeptTypes.{AreResolved, HasAllTypes, HoldsResolved, IsFull, KeepsGeneral}
pub use Rattle.infer_end.specs.SelectedBody.{FallsBack, OnlyGoals, SelectsAndReadsOn, SelectsThenReads, SelectsThenReadsTimes, SettlesBody, SettlesLast, StaysOfPlain}
pub use Rattle.infer_end.specs.Staying.{NoneStays, HoldsStaying}
