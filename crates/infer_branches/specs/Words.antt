-- What this crate takes from those below it.
pub use Rattle.infer_pat.specs.Words.hir_raw
pub use Rattle.infer_pat.specs.Words.infer_result
pub use Rattle.infer_pat.specs.Words.infer_coerce
pub use Rattle.hir_types.specs.Own.{Same, erased, replaced_bool, Assignment, folded, with_holes, unit}
pub use Rattle.hir_types.specs.declared.ids.ExprId.{ExprId}
pub use Rattle.hir_types.specs.declared.ty.Ty.{Ty}
pub use Rattle.infer_pat.specs.Words.{Part, Role, after, arm, arm_parts, arm_pattern, arm_patterns, arms_parts, condition, else_branch, expr_part, guard, inner, maybe_part, part_at, parts_of_expr, pat_part, scrutinee, then_branch, Scope, RawArm, RawBody, Schedule}
pub use Rattle.infer_pat.specs.Words.{is_carried_body, is_carried_expr, IsCarriedType, same_carried}
pub use Rattle.infer_pat.specs.Words.{Grew, State}
pub use Rattle.infer_pat.specs.Words.{IsOfBody, AsksOf, Demand, AsksOfAlternative, IsBefore, IfRule, ArmPatterns, ArmsRule, GuardRule, MatchRule, arm_exprs, IsMisfit, Given, IsAt, IsAtOrMismatch, StandsAt, at_or_mismatch, ObeysOrMismatch, AnyMismatch, HasMismatch, HasTy, mismatch, InferenceResult, TypeMismatch}
pub use Rattle.infer_pat.specs.Words.{IsTold, Closes, expected_under, found_under, IsCarriedExpectation, IsLess, expected_type, given_of, of_alternatives, of_arms, schedule_of, scope_in, IsFine, IsFineExpectation, Found, with_mismatch, Before, CoerceDone, Does, Follows, IsWalking, KindDone, OwnDone, Within, CoerceWalked, IsInside, IsReady, KindWalked, LieAhead, OwnWalked, Extends, IsCarriedTable, Nothing, Owed, OwedByAlternatives, PaidBy, Walks, expr_end, InferenceContext}
pub use Rattle.infer_pat.specs.Words.{IsCoercedIf, Completes, CompletesAs, IsFineCommon, Merges, MergesInto, common_of, common_under, InfersFrom, CoerceMany}
pub use Rattle.infer_pat.specs.Own.{BeforePat, PatDone}
