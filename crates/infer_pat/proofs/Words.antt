-- What this crate takes from those below it.
pub use Rattle.infer_obligations.proofs.Words.{bind_has_no_parts, ctor_pattern, list_all_at, asked_is_carried, carried_has_body, body_in_range}
pub use Rattle.infer_obligations.proofs.Words.{get_from_take, grew_by_hole, grew_twice, grew_itself}
pub use Rattle.infer_obligations.proofs.Words.{none_counted}
pub use Rattle.infer_obligations.proofs.Words.{columns_are, columns_written, long_with, types_with}
pub use Rattle.infer_obligations.proofs.Words.{ctor_type_of_tuple, ctor_type_of_unit}
pub use Rattle.infer_obligations.proofs.Words.{told_beside, told_same, told_with, before_under, closes_before, expected_carried, follows_itself, follows_twice, walking_after, within_under, carried_expr, walks_paid, walks_refl, walks_trans, IsOfLayer, alternatives_less, arms_less, read_alike, comes_within, own_done, told_entered, all_fine_grown, every_at, every_from, fine_adt, fine_bool, fine_expectation_grown, fine_fn_def, fine_grown, fine_hole, fine_int_hole, fine_integer, fine_no_alias, fine_part, fine_tuple, fine_unit, WalksParts, begins_parts, comes_to, goes_past, goes_past_coerced, fine_instances, instances_under, tuple_signature, all_pats_kept, alternative_kept, any_kept, arm_patterns_kept, arms_kept, at_kept, declared_kept, demand_kept, diagnostic_kept, extends_refl, extends_trans, guard_kept, hole_at, incoming_kept, is_at_kept, misfit_kept, obeys_kept, pat_at_kept, pat_kept, pat_of_kept, pat_truth_kept, recorded_kept, seen_as_entered, seen_as_kept, stmts_kept, tail_kept, leaf_done, literal_done, rule_of, At-put, At-set, At-set_cases, drop-step, found, length-noted, length-own_set, lt_or_ge, noted-cases, noted-keeps, noted-some, own_set, own_set-at, own_set-cases, own_set-other, put-cases, put-here, same_or_not, slice_get-append_left, slice_get-set_other, slice_get-set_same, take_next, noted_extends, noted_has, noted_walks, adt_closed, carried_closed, carried_fine, expected_closed, fine_closed, fine_later, fn_def_closed, close, after_append, ahead_left, ahead_rest, ahead_right, ahead_stands, ahead_start, binding_id, binds_within, expr_ahead, expr_before, expr_is_no_pat, one_pat, pat_ahead, pat_id, arm_tells, ctor_tells, function_tells, let_tells, literal_tells, local_tells, no_telling_block, no_telling_if, no_telling_match, param_at_tells, part_tells, carried_tuple_of, carried_unit, table_closed, At-closed, At-unasked, At-unclosed, bound_by_under, closes_earlier, closes_same, of_body_bound_by, of_body_pat_diagnostic, of_body_pat_item, of_body_pat_mismatch, of_body_pat_ty, of_body_unclosed, pat_item_under, pat_mismatch_under, pat_ty_under, push_cases, same_found, sound_bound_by, sound_entered, sound_pat_diagnostic, sound_pat_item, sound_pat_mismatch, sound_pat_ty, sound_placeholder, expr_named, only_named, pat_named, let_fine}
pub use Rattle.infer_obligations.proofs.Words.{owed_paid, placed_at, placed_carried, placed_owed, holed, holed_sound, later, bound_heads}
pub use Rattle.infer_obligations.proofs.FineNeeds.{needs_in_scope}
pub use Rattle.infer_obligations.proofs.FineSources.{sources_fine}
pub use Rattle.infer_obligations.proofs.NeedHoles.{needed_made}
pub use Rattle.infer_obligations.proofs.Registering.{told_registered}
