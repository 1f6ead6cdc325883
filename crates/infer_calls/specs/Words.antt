-- What this crate takes from those below it.
pub use Rattle.infer_obligations.specs.Words.hir_raw
pub use Rattle.infer_obligations.specs.Words.infer_result
pub use Rattle.infer_obligations.specs.Words.infer_ctx
pub use Rattle.hir_types.specs.Own.{fn_def_tells, Assignment, folded, replaced, term, terms_of}
pub use Rattle.hir_types.specs.declared.goal.Goal.{Goal}
pub use Rattle.hir_types.specs.declared.ids.CallableDefId.{CallableDefId}
pub use Rattle.hir_types.specs.declared.ids.ExprId.{ExprId}
pub use Rattle.hir_types.specs.declared.ids.ExprOrPatId.{ExprOrPatId}
pub use Rattle.hir_types.specs.declared.ty.AliasBound.{AliasBound}
pub use Rattle.hir_types.specs.declared.ty.GenericArg.{GenericArg}
pub use Rattle.hir_types.specs.declared.ty.TraitRef.{TraitRef}
pub use Rattle.hir_types.specs.declared.ty.Ty.{Ty, Ty-F, out-Ty, out-roll-Ty}
pub use Rattle.infer_obligations.specs.Words.{after, argument, arguments, callee, expr_part, exprs_from, inner, part_at, parts_of_expr, Scope, has_params, names_item, types_scope, Signature, at_args, signature_of, type_args, RawBody, RawExpr, RawPath, Schedule}
pub use Rattle.infer_obligations.specs.Words.{is_carried_body, IsCarriedType}
pub use Rattle.infer_obligations.specs.Words.{AllOf, IsLawfulState, apply_resolved_term, resolution, AreOf, AreRefused, AreUnified, CanBeEqual, Grew, HolesAreOf, State, bindings, hole_count, resolved_type, GoesBack, IsResolvedOr, NoUnifier}
pub use Rattle.infer_obligations.specs.Words.{asked_goal}
pub use Rattle.infer_obligations.specs.Words.{stays_with}
pub use Rattle.infer_obligations.specs.Words.{IsOfBody, Demand, HasHead, HeadOf, Outermost, of_ctor, of_function, other, outermost_step, ArgsRule, CallsNonGeneric, IsCallee, IsPathToItem, callable_step, is_callable, AllAt, callee_needs, Given, IsAtOrMismatch, at_or_mismatch, At, HasDiagnostic, HasTy, WasSeen, IsTrueDiagnostic, IsTrueSeen, has_unknown, InferenceDiagnostic, InferenceResult, Seen, TypeMismatch}
pub use Rattle.infer_obligations.specs.Words.{IsCallableItem, IsSigIfItem, IsSigOf, IsSigOfItem, ItemsAreCallable, Closes, IsSound, expected_under, found_under, expected_type, given_of, schedule_of, scope_in, with_seen, with_table, AllFine, HasFineHeads, IsCarriedIn, IsFine, IsFineExpectation, item_params, Found, with_diagnostic, Before, CoerceDone, Does, Follows, IsWalking, KindDone, OnlyBinds, OwnDone, Within, Tells, IsItem, IsReady, KindWalked, LieAhead, OwnWalked, Extends, IsSeenAs, IsWalked, Nothing, Owed, PaidBy, Walks, expr_end, InferenceContext, CallableSig}
pub use Rattle.infer_obligations.specs.Words.{SameOrDiffer, UnifiesAll, UnifiesOne, InfersFrom}
pub use Rattle.infer_obligations.specs.Own.{SelectsAndReads, SelectsInWalk}
