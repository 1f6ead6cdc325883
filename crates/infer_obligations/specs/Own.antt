-- What this crate defines, from one place: for its code and proofs, and for the crates above.
pub use Rattle.infer_obligations.specs.LetTypes.{AreNoted, NotesAlias}
pub use Rattle.infer_obligations.specs.Reading.{EndsSettled, ReadsAlias, ReadsAll, ReadsEach, ReadsFirst, ReadsFor, ReadsGoal, ReadsOn, ReadsPat, ReadsPath, ReadsPaths, ReadsPats, ReadsTimes, SelectsAndReads, SettlesNeeds, UnifiesInHand}
pub use Rattle.infer_obligations.specs.Registering.{IsRegistered, Registers, asked_for, node_asks}
pub use Rattle.infer_obligations.specs.Selection.{AreSelected, IsSelection, SelectsAlone, SelectsInWalk}
