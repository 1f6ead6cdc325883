-- What this crate defines, from one place: for its code and proofs, and for the crates above.
pub use Rattle.goal_answers.specs.Answers.{ByRules, CannotGive, FailsAt, Gives, GivesNone, HasNoSource, HasSource, IsApart, IsGeneral, IsItself, IsNeverItself, IsRefuted, NeverSame, NoAt, Proves, RuleIsRefuted, Shadows, ShadowsNot, YesAt, alias_first, alias_next, answers, first, next, nothing}
pub use Rattle.goal_answers.specs.Goals.{Asked, Each, IsKnown, IsKnownPart, IsTold, IsToldBy, Kind, OneIf, OneOf, Rule, SomeOf, System, Verdicts, args_of, asked_at, implements, is_among, is_trait, key, only, projects, self_type, type_of}
pub use Rattle.goal_answers.specs.Laws.{AnswersAreOne, DecidedAnswersStay, DeeperAnswersAgree, IsProvedThrough, SelectedIsTheSource}
pub use Rattle.goal_answers.specs.Proofs.{Claims, HasProof, IsEntry, IsGiven, IsOne, IsSource, NoHasNoProof, Says, YesHasProofs}
pub use Rattle.goal_answers.specs.Reading.{Aliases, Fill, IsFilling, IsRead, IsReadLeaf, MayRead, Reads, ReadsAs, Role, alias, alias_at, plain, role, stands, staying}
pub use Rattle.goal_answers.specs.Rows.{AreArgs, Copied, CopyNo, CopyYes, EachType, IsLast, IsLastPart, IsNth, SizedNo, SizedYes, SomeType, Tail, asked, by_impls, copied, copied_head, field, field_tail, has_none, has_size, head_tail, last, tail_of, tuple_tail, types_of, unclear, unclear_tail, with_part, with_parts}
pub use Rattle.goal_answers.specs.Selecting.{Choice, CopiesParts, HasConcreteHead, IsChoice, IsConcrete, IsConcreteHead, IsDeep, IsOnlyOf, IsOnlySource, IsSelectable, IsTraitKind, Selects, SizeIsBy, StatesGoal, by_clause, by_parts, by_rule, by_size}
pub use Rattle.goal_answers.specs.Steps.{AliasIs, HoldsAt, HoldsIf, ReadingIs, Tells, known_below}
