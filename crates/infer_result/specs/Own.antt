-- What this crate defines, from one place: for its code and proofs, and for the crates above.
pub use Rattle.infer_result.specs.AliasNeeds.{alias_goal, alias_goals, alias_goals_by, alias_goals_from, fn_alias_goals, none_for_aliases, path_alias_goals, variant_alias_goals}
pub use Rattle.infer_result.specs.CannotHold.{CannotHold, MayHold, Opened, hole_by, hole_for, opened_goal, put_or, HasCause, IsReadable}
pub use Rattle.infer_result.specs.Closed.{AllSeen, AllTypes, IsBinder, IsClosedTable, IsItemOfPat, IsOfBody, IsTotal, IsVariantPat, NamesVariant, OnlyBindersHaveModes, OnlyCtorPatsHaveItems, OnlyNamedVariants}
pub use Rattle.infer_result.specs.Columns.{AllIn, AllInDiagnostic, AreComplaints, Column, Entries, Entry, EntryKind, EntryOf, Index, IsIn, IsLong, col, column_under, count_of, diagnostic_under, each_under, empty_table, entries_under, entry_kind, entry_under, index, mismatch_under, no_entries, table_of, with_columns}
pub use Rattle.infer_result.specs.Demands.{Asks, AsksOf, Demand, IsAsked}
pub use Rattle.infer_result.specs.Derivation.{HasNoComplaint, IsCalled, IsDerivation, IsPlainDerivation, IsPlainItem}
pub use Rattle.infer_result.specs.Excused.{BodyIsExcused, ExcusedAs}
pub use Rattle.infer_result.specs.General.{AreGeneralTypes, GivesPlain, HasGeneral, HasTypesOf, IsGeneralFor, IsGeneralOf, IsGeneralType, IsPlainClosing, closed_by, general_adt, general_bool, general_char, general_hole, general_integer, general_integer_hole, general_item, general_param, general_tuple, types_under}
pub use Rattle.infer_result.specs.Heads.{HasHead, HeadOf, Outermost, filled_head, of_ctor, of_function, of_output, of_tuple, of_up, other, outermost_step, tuple}
pub use Rattle.infer_result.specs.InHand.{CanStand, IsInHand, IsKnownAs, ReadsAsNone, body_scope, is_read_head}
pub use Rattle.infer_result.specs.Incoming.{Gives, GivesPart, Incoming, IsInput}
pub use Rattle.infer_result.specs.Kinds.Alternative.{AsksOfAlternative, IsBefore, IsOfOther}
pub use Rattle.infer_result.specs.Kinds.Block.{IsBlockWithoutTail, LetRule, StmtHasMismatch, StmtRule, StmtsHaveMismatch, StmtsRule, TailRule}
pub use Rattle.infer_result.specs.Kinds.Call.{ArgsRule, CallRule, CallsItem, CallsNonGeneric, IsCallee, IsInputAt, IsPathToItem, IsSaid, IsWrittenInput, IsWrongCount, ItemCallRule, callable_step, is_callable}
pub use Rattle.infer_result.specs.Kinds.Constructor.{IsCtorAt, IsCtorPath, IsVariantAt, adt_at, fields_at}
pub use Rattle.infer_result.specs.Kinds.If.{ElseRule, IfRule, IsIfWithoutElse, IsOfBranch, branches_of}
pub use Rattle.infer_result.specs.Kinds.Literal.{IsLiteralType, IsOwnType}
pub use Rattle.infer_result.specs.Kinds.Match.{ArmPatterns, ArmsRule, GuardRule, GuardsHaveMismatch, MatchRule, arm_exprs}
pub use Rattle.infer_result.specs.Kinds.Path.{NamesLet, NamesParameter, NamesUnit, PathRule}
pub use Rattle.infer_result.specs.Kinds.Tuple.{AllAt}
pub use Rattle.infer_result.specs.Made.{IsMade, IsMisfit}
pub use Rattle.infer_result.specs.Needs.{GoalsHold, HasGap, HasNoneLeft, IsClash, IsNeeded, IsTrueClash, IsTrueGap, IsTrueUnproved, IsUnproved, NeedsHold, Saying, callee_needs, clashes, expr_preds, gap_says, item_args, item_path, needed_goals, needs_at, needs_of, needs_preds, node_needs, pat_needs_at, pat_needs_by, pat_needs_of, path_preds, scope_item, variant_preds, with_goals}
pub use Rattle.infer_result.specs.OwnTypes.{AreLetTypes, AreOwnTypes, EachIsKnownAs, HoldsPlaceholder, IsAliasKnownAs, aliases_of, fn_aliases_by, written_inputs}
pub use Rattle.infer_result.specs.Pats.Constructor.{CtorPatRule, GivesField, IsItemOf, IsPatOf, PatsAtFields}
pub use Rattle.infer_result.specs.Pats.Tuple.{AllPatsAt, GivesComponent}
pub use Rattle.infer_result.specs.Places.{AreRecorded, Given, IsAsKnown, IsAt, IsAtMaybe, IsAtMaybeOrMismatch, IsAtOrMismatch, IsPlaceholder, MisfitsAs, OnlyPlaceholdersHaveTypes, PatIsAtOrMismatch, StandsAt, declared, hole_type, let_types}
pub use Rattle.infer_result.specs.Placing.{Placing, at_or_mismatch, at_types}
pub use Rattle.infer_result.specs.Projections.{AreFound, GoalReads, HasEntry, IsAboutAlias, IsFound, IsListedAs, IsPartOf, NoneIsLeft, StaysOrIsListed, stays_at}
pub use Rattle.infer_result.specs.Proved.{HoldsNoHole, HoldsUnknown, IsProved}
pub use Rattle.infer_result.specs.Report.{adt_own_count, adt_text, arg_text, args_text, binding_line, callable_text, complaint_count, complaints, const_text, def_line, diagnostic_line, expr_line, float_text, fn_own_count, gap_line, implements_text, int_text, joined, label_text, line, lines_from, mismatch_line, mode_text, own_args, own_count, pat_line, projection_text, ptr_text, ref_text, report, safety_text, separator, text_arg, text_bound, text_step, text_trait, tuple_text, ty_text, type_text, uint_text, variant_own_count, variant_text}
unfoldable pub use Rattle.infer_result.specs.Report.{counts_text, diagnostic_text, gap_text, goal_text, mismatch_head, node_text, type_field}
pub use Rattle.infer_result.specs.Rules.{BodyObeys, BodyObeysOrMismatch, ObeysExpression, ObeysOrMismatch, ObeysPattern, PatRule, Rule}
pub use Rattle.infer_result.specs.Stable.{HasClosedTypes, IsClosedType, IsStable, NodeRulesAreStable, RulesAreStable, WholeObeys, table_under}
pub use Rattle.infer_result.specs.Table.{AnyDiagnostic, AnyMismatch, At, BindingTy, ExprVariant, HasDiagnostic, HasMismatch, HasMode, HasPatDiagnostic, HasPatMismatch, HasTy, MaybeMismatch, MismatchAt, PatItem, PatTy, PatVariant, PlaceholderTy, WasSeen, gaps_at, listed_gaps, mismatch, node_type, node_variant, recorded}
pub use Rattle.infer_result.specs.Truth.Diagnostics.{IsTrueDiagnostic, IsTruePatDiagnostic}
pub use Rattle.infer_result.specs.Truth.Mismatch.{EndsInUnit, IsTrueMismatch, IsTruePatMismatch, SaysItsType}
pub use Rattle.infer_result.specs.Truth.Seen.{IsTrueSeen}
pub use Rattle.infer_result.specs.Typed.{IsTableOf, IsTyped, given, given_by}
pub use Rattle.infer_result.specs.TypesFit.{SeenFit, TypesFit}
pub use Rattle.infer_result.specs.Unknown.{IsKnown, arg_has_unknown, bound_has_unknown, has_unknown, trait_has_unknown, unknown_arg, unknown_bound, unknown_const, unknown_step, unknown_trait}
pub use Rattle.infer_result.specs.UnknownLayers.{arg_has_unknown_type, has_unknown_adt, has_unknown_associated, has_unknown_bool, has_unknown_char, has_unknown_error, has_unknown_fn_def, has_unknown_int, has_unknown_int_var, has_unknown_param, has_unknown_tuple, has_unknown_uint, has_unknown_var}
pub use Rattle.infer_result.specs.Upward.{Stated, Up, of_call, of_initializer, of_literal, of_parameter, of_unit, of_written}
pub use Rattle.infer_result.specs.WrittenAliases.{AboutIsListed, AllWrittenAreListed, IsListedOnceRead, WrittenAreListed, args_term}
pub use Rattle.infer_result.specs.declared.diagnostics.InferenceDiagnostic.{InferenceDiagnostic}
pub use Rattle.infer_result.specs.declared.gaps.Gap.{Gap}
pub use Rattle.infer_result.specs.declared.result.General.{General}
pub use Rattle.infer_result.specs.declared.result.InferenceResult.{InferenceResult}
pub use Rattle.infer_result.specs.declared.result.Seen.{Seen}
pub use Rattle.infer_result.specs.declared.result.TypeMismatch.{TypeMismatch}
