-- What this crate takes from those below it.
pub use Rattle.infer_goals.proofs.Words.infer_table
pub use Rattle.infer_goals.proofs.Words.goal_search
pub use Rattle.hir_types.proofs.Equal.{ty_decides}
pub use Rattle.infer_goals.proofs.Words.{one_place}
pub use Rattle.infer_goals.proofs.Words.{arguments_in_order, bind_has_no_parts, carried_parts, ctor_pattern, list_all_at, body_in_range, unit_aliases, variant_adt, variant_ctor, field_direct, names_none, no_aliases, no_field_aliases, none_within, own_arity, Each, IsOver, over_field, over_input, over_output, kind_direct, plain_direct, type_direct, asked_is_carried, carried_has_body, inputs_count}
pub use Rattle.infer_goals.proofs.Words.{get_from_take, get_last, get_left, resolved_made, closing_meets, binds_only_fallen, grew_by_hole, grew_twice, hole_where_open, is_var_at, front_itself, grew_itself, waiting_count, left_from-push}
pub use Rattle.infer_goals.proofs.Words.{SizedYesBy, read_reads}
pub use Rattle.infer_goals.proofs.Words.{get_in_map, args_holes, type_under, listed_not_concrete, each_append, each_get, args_are, by_layers, layer, layer_is, parts_by}
pub use Rattle.infer_goals.proofs.Words.{concrete_within}
pub use Rattle.infer_goals.proofs.Words.{mapped_get}
pub use Rattle.infer_goals.proofs.Counting.{asked_counted, none_counted, went_counted}
pub use Rattle.infer_goals.proofs.Lists.{append_get}
pub use Rattle.infer_goals.proofs.Steps.{went_grew}
pub use Rattle.infer_result.proofs.Columns.{columns_are, each_with, entries_all_under, entries_long, every_type, long_beside, long_with, types_beside, types_with, with_column}
pub use Rattle.infer_result.proofs.DerivationLaws.{derivation_of}
pub use Rattle.infer_result.proofs.Derived.{ctor_type_of_tuple, ctor_type_of_unit, typed_by_schedule}
