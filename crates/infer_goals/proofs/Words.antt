-- What this crate takes from those below it.
pub use Rattle.goal_select.proofs.Words.infer_table
pub use Rattle.goal_select.proofs.Words.goal_search
pub use Rattle.goal_select.proofs.Words.{one_place}
pub use Rattle.goal_select.proofs.Words.{arguments_in_order, bind_has_no_parts, carried_parts, ctor_pattern, list_all_at, body_in_range, unit_aliases, variant_adt, variant_ctor, field_direct, names_none, no_aliases, no_field_aliases, none_within, own_arity, Each, IsOver, over_field, over_input, over_output, kind_direct, plain_direct, type_direct, asked_is_carried, carried_has_body, inputs_count}
pub use Rattle.goal_select.proofs.Words.{get_from_take, get_last, get_left, get_more, resolved_made, closing_meets, binds_only_fallen, grew_by_hole, grew_by_nothing, grew_twice, hole_where_open, is_var_at, front_itself, grew_itself, waiting_count, left_from-push}
pub use Rattle.goal_select.proofs.Words.{one_deeper, refuted_more, within_itself, SizedYesBy, decided_answers_stay, answers_read, reads_read, each_with, one_some, or_map, answers_are_one, answers_sound, occurs_type, yes_has_proofs, AliasWithin, MayReadBy, ReadsBy, hole_filling, read_reads, reads_may, reads_one, reads_within, role_read, stands_by, each_all}
pub use Rattle.goal_select.proofs.Words.{pair_of}
pub use Rattle.goal_select.proofs.Words.{get_in_map, get_mapped, args_holes, type_under, listed_not_concrete, answer_is, depth_is_small, each_append, each_get, args_are, by_layers, layer, layer_is, parts_by, type_layer}
pub use Rattle.goal_select.proofs.Heads.{concrete_within}
pub use Rattle.goal_select.proofs.Known.{args_folded}
pub use Rattle.goal_tree.proofs.Copying.{copied_source, copied_tree}
pub use Rattle.goal_tree.proofs.Growing.{asked_grows, source_back}
pub use Rattle.goal_tree.proofs.Proving.{later_then, proved_none}
pub use Rattle.goal_tree.proofs.Right.{proofs_of_tree}
pub use Rattle.goal_tree.proofs.Standings.{back_get, mapped_get, open_proved, open_selected, same_standing, selected_proved}
