-- What this crate defines, from one place: for its code and proofs, and for the crates above.
pub use Rattle.infer_branches.specs.Branches.{AllAtType, AlternativeDone, AreMerged, ArmsDone, BeforeArms, BeforeElse, BeforeGuard, ElseDone, GuardDone, GuardWalked, IsCommonFrom, IsIfOf, IsMatchOf}
