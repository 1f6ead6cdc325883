-- What this crate defines, from one place: for its code and proofs, and for the crates above.
pub use Rattle.goal_prove.specs.Asking.{ArePredsProved, AreProofsFor, FitIs, FitsNot, IsAsked, IsFit, IsFree, IsPredProved, IsProofFor, IsProved, IsProvedAs, IsSourced, PredIsAsked, ReadsTo, deep_alias, fill_args, type_or_unknown, told_fill}
pub use Rattle.goal_prove.specs.Entries.{AddsChildrenBut, AddsOneRoot, AddsProofs, IsChild, IsNamed, IsProofAs, IsProofAt, IsProofIf, IsProvedIf, IsPushed, KeepsIfNone, AreDrawn, IsDrawn, IsReadAt, IsTaken, TakesFrom, IsIn, AreRightProofs}
pub use Rattle.goal_prove.specs.Parts.{CopiesAre}
pub use Rattle.goal_prove.specs.Written.{AliasIsGood, AreGood, AreOfArgs, IsGood, IsGoodGoal, IsOfType, IsWhole, IsWritten, IsWrittenHead}
pub use Rattle.goal_prove.specs.declared.fits.Found.{Found}
