-- What this crate defines, from one place: for its code and proofs, and for the crates above.
pub use Rattle.infer_unify.specs.Exactly.{CanBeSame, IsExact, UnifyExactly}
pub use Rattle.infer_unify.specs.Following.{AreFollowed, AreRounds, IsFollowed, IsRound}
pub use Rattle.infer_unify.specs.Opening.{Alias, AreOpened, HaveHeads, IsBare, IsOpened, IsPutFor, Opened, Place, above, above_both, alias, alias_of, aliases_of, as_it_is, behind, joined, opened, place, plain, second_opened, unknown_const, unknown_type}
pub use Rattle.infer_unify.specs.Unifying.{AreJudged, AreSteps, Becomes, BecomesFrom, HaveCommon, HaveCommonIn, IsAll, IsFound, IsNoStep, IsOnlyOutcome, IsOnlyTestOf, IsRefuted, IsSettled, IsStep, IsStepOf, IsTestOf, IsUnification, OnlyWhere, could, deeply, goal_of, known_alias}
pub use Rattle.infer_unify.specs.declared.unification.Unification.{Unification}
