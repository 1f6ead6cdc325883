-- What this crate takes from those below it.
pub use Rattle.goal_select.specs.Words.hir_raw
pub use Rattle.goal_select.specs.Words.goal_answers
pub use Rattle.goal_select.specs.Words.goal_terms
pub use Rattle.goal_select.specs.Words.goal_search
pub use Rattle.goal_select.specs.Words.goal_facts
pub use Rattle.hir_types.specs.Own.{arg_as_type, with_params, no_label, type_of_term, in_arg, in_ty, map_twice, arg_term_at, arg_term_const, arg_term_type, args_terms, bound_parts_is, parts_of_types, term_adt, term_adt_types, term_array, term_associated_type, term_at, term_bool, term_char, term_closure, term_dynamic, term_error, term_float, term_fn_def, term_fn_ptr, term_hole, term_int, term_never, term_opaque, term_param, term_raw_ptr, term_ref, term_slice, term_str, term_tuple, term_uint, term_var, terms, trait_parts_is, Term, apply, arg_step, arg_term, auto_parts, bound_parts, chain, const_part, const_term, hole, hole_number, leaf, node, occurs, pair, term, trait_parts, ty_step, type_part}
pub use Rattle.hir_types.specs.declared.goal.Goal.{Goal}
pub use Rattle.hir_types.specs.declared.head.Head.{Head}
pub use Rattle.hir_types.specs.declared.head.Hole.{Hole}
pub use Rattle.hir_types.specs.declared.ids.AdtId.{AdtId}
pub use Rattle.hir_types.specs.declared.ids.GenericDefId.{GenericDefId}
pub use Rattle.hir_types.specs.declared.ids.ImplId.{ImplId}
pub use Rattle.hir_types.specs.declared.ids.TraitId.{TraitId}
pub use Rattle.hir_types.specs.declared.ids.TypeAliasId.{TypeAliasId}
pub use Rattle.hir_types.specs.declared.ids.TypeRefId.{TypeRefId}
pub use Rattle.hir_types.specs.declared.ty.AliasBound.{AliasBound}
pub use Rattle.hir_types.specs.declared.ty.Const.{Const}
pub use Rattle.hir_types.specs.declared.ty.GenericArg.{GenericArg, GenericArg-F, ind-GenericArg, map-GenericArg, out-GenericArg, out-roll-GenericArg, roll-GenericArg, roll-out-GenericArg}
pub use Rattle.hir_types.specs.declared.ty.TraitRef.{TraitRef, out-TraitRef}
pub use Rattle.hir_types.specs.declared.ty.Ty.{Ty, Ty-F, ind-Ty, map-Ty, out-Ty, roll-Ty}
pub use Rattle.goal_select.specs.Words.{arg_types, count_or_none, generic_params, params_in_trait, RawAssocType, RawFacts, RawGoal, RawImpl, RawTraitRef, RawType}
pub use Rattle.goal_select.specs.Words.{Log, found, IsFront, apply_agree, hole_eq_same, hole_eq_true, pair_left, pair_right}
pub use Rattle.goal_select.specs.Words.{Gives, GivesNone, HasSource, IsItself, IsNeverItself, Proves, Shadows, ShadowsNot, YesAt, alias_next, answers, nothing, Asked, Each, IsKnown, IsToldBy, Kind, OneIf, OneOf, Rule, SomeOf, System, Verdicts, args_of, asked_at, implements, is_among, key, only, projects, self_type, type_of, IsOne, Aliases, Fill, IsFilling, IsRead, MayRead, Reads, ReadsAs, alias, plain, role, stands, staying, Copied, CopyYes, EachType, IsNth, SizedYes, by_impls, copied, copied_head, types_of, unclear, with_part, with_parts, CopiesParts, IsDeep, HoldsAt, HoldsIf, ReadingIs, known_below}
pub use Rattle.goal_select.specs.Words.{fill_of, log_of, HasHeads, term_of}
pub use Rattle.goal_select.specs.Words.{holes_fill, Decides, IsDone, IsLevelBelow, PredIsDone, RuleHasHeads, SystemHasHeads, asked_list, asked_of, kind_of, rule_of, rules_of, system, Answer, Sources}
pub use Rattle.goal_select.specs.Words.{args_at, goal_at, holes, own_params, type_at, BoundSays, IsListed, IsStated, IsSuper, own_clause, trait_holes, asked_goal, ComesFrom, HasHolesBelow, ImplHasRule, assoc_rule, impl_rules, rules_for, said_trait, trait_rule, AreProofs, AreProofsOf, Holds, IsBuiltIn, IsClause, IsImplAt, IsListedBound, IsProofOf, IsSource, IsUnshadowed, MayHaveSource, arg_at, args_fill, filled_goal, ClausesAre, IsSystemOf, fact, Proof, ProofSource}
