-- What this crate takes from those below it.
pub use Rattle.goal_facts.specs.Words.goal_answers
pub use Rattle.hir_types.specs.Own.{Same, erased, erased_step, no_label, ReadPart, all_but_last, arg_of, auto_before, autos_of, bound_before, bounds_of, const_of, const_of_term, erased_steps, erased_tells, erasing, leading_args, mark, read, term_erased, term_tells, type_of_term, types, unread, GoBySteps, Maps, Steps, folds_follow, in_arg, in_arg_twice, in_bound, in_trait, in_ty, in_ty_twice, map_twice, maps_after, unique, at_arg, at_ty, bound_replaced_is, replacing, trait_replaced_is, Assignment, arg_folded, arg_layer, bound_replaced, const_folded, folded, trait_folded, ty_layer, with_holes, arg_term_at, bound_parts_is, term_at, term_folded, term_int, term_int_var, term_uint, terms, trait_parts_is, IsInt, Term, apply, arg_step, arg_term, auto_parts, bound_parts, bound_step, chain, const_part, const_term, hole, hole_number, leaf, node, pair, term, terms_of, trait_parts, trait_step, ty_step, type_part}
pub use Rattle.hir_types.specs.declared.head.Head.{Head}
pub use Rattle.hir_types.specs.declared.head.Hole.{Hole}
pub use Rattle.hir_types.specs.declared.ids.AdtId.{AdtId}
pub use Rattle.hir_types.specs.declared.ids.GenericDefId.{GenericDefId}
pub use Rattle.hir_types.specs.declared.ids.TraitId.{TraitId}
pub use Rattle.hir_types.specs.declared.ids.TypeAliasId.{TypeAliasId}
pub use Rattle.hir_types.specs.declared.ty.AliasBound.{AliasBound, AliasBound-F, map-AliasBound, roll-AliasBound}
pub use Rattle.hir_types.specs.declared.ty.Const.{Const}
pub use Rattle.hir_types.specs.declared.ty.GenericArg.{GenericArg, GenericArg-F, fold_out-GenericArg, map-GenericArg, out-GenericArg, roll-GenericArg}
pub use Rattle.hir_types.specs.declared.ty.TraitRef.{TraitRef, TraitRef-F, map-TraitRef, roll-TraitRef}
pub use Rattle.hir_types.specs.declared.ty.Ty.{Ty, Ty-F, ind-Ty, map-Ty, roll-Ty}
pub use Rattle.goal_facts.specs.Words.{RawFacts}
pub use Rattle.goal_facts.specs.Words.{resolved_apply, solution, solution_apply, solution_respects, solution_solves, triangular_left, Log, NoneUnifies, Respects, Solves, Triangular, Unified, UnifiedIf, resolved, sub, pair_left, pair_right}
pub use Rattle.goal_facts.specs.Words.{CannotGive, Gives, GivesNone, HasNoSource, HasSource, NoAt, Proves, RuleIsRefuted, Shadows, ShadowsNot, YesAt, alias_first, alias_next, answers, first, next, nothing, Asked, Each, IsKnown, Kind, OneOf, Rule, SomeOf, System, Verdicts, asked_at, is_among, only, projects, self_type, Aliases, IsFilling, IsRead, IsReadLeaf, ReadsAs, alias, alias_at, plain, role, SizedNo, SizedYes, Tail, asked, field, has_none, has_size, last, tail_of, unclear_tail, ReadingIs}
pub use Rattle.goal_facts.specs.Words.{log_of, HasHeads, IsHead, term_is, term_of, term_of_hole, term_of_leaf, HaveHeads, IsLog}
pub use Rattle.goal_facts.specs.Words.{SystemHasHeads, system, Sources}
pub use Rattle.goal_facts.specs.Own.{AreDistinct, Has, IsListed, IsClosure, IsStated, IsAnswer, impl_rules, ClausesAre, IsSystemOf, RulesAre, fact}
