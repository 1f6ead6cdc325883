-- What this crate defines, from one place: for its code and proofs, and for the crates above.
pub use Rattle.infer_needs.specs.FitTerms.{AliasFitsHere, AliasesFitIn, AskedFits, EntriesFitIn, EntryFitsIn, Fits, FitsIn, GoalFitsIn, GoalIsFit, GoalsFitIn, MayFollow, TakesThese, are_types, is_fit, is_fit_arg, is_type, may_follow, takes}
pub use Rattle.infer_needs.specs.Fits.{AreFitArgs, EntriesFit, IsFitGap, IsFitGoal, IsFitType, ProofsFit, IsFitSource, IsFitProof}
pub use Rattle.infer_needs.specs.Judged.{AddsEntries, AreAllJudged, AreDone, AreEntries, AreJudged, ArePatsJudged, AreProvable, CanAllBeProved, CanPatsBeProved, ComeFrom, FitOrAreSaid, HasProofOf, IsAmong, IsDone, IsEntry, IsJudged, IsListedNow, IsNoted, IsOfClash, IsOfFailing, IsProvable, IsSaid, IsSaidBy, IsSaidClash, IsSaidOnce, IsSaidUnlessMay, MayHoldIf, Notes, ReadsAbout, SaysAlias, clash, unproved, HasCauseAsIs}
pub use Rattle.infer_needs.specs.Left.{AddsRead, EachIn, EachOf, IsFinal, IsFinalType, Lists, NoneHere, NoneStands, StandsInDiagnostic, StandsInMismatch, StandsInType, WasRead, WereRead, staying_head}
pub use Rattle.infer_needs.specs.Listed.{AreDistinct, FindsIn, IsIndexed}
pub use Rattle.infer_needs.specs.Read.{AddsProofOf, IsGoalRead, IsWrittenIf, IsKnownIf}
pub use Rattle.infer_needs.specs.Told.{AddsRootsOf, AreAllAnswered, AreAnswered, AreRootsOf, HearsAll, IsAboutTrait, IsOneOf, IsToldAll, ListsAnswers, RootsAreNeeded, RootsAreTold, WasTold, all_needs, at_exit, first_needs, first_pat_needs, IsRightIn, IsRootOf}
pub use Rattle.infer_needs.specs.Written.{AllFitIn, AreAllListed, CanItemsBeProved, ExprsAreListed, ExprsFitIn, GoalIsListed, GoalsAreListed, IsAsWritten, ItemsAreListed, ItemsFitIn, ListedAt, ListedHere, TypeFitsIn, TypeIsListed, TypesAreListed, TypesFitIn}
