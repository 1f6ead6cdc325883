-- What this crate takes from those below it.
pub use Rattle.goal_search.proofs.Words.infer_table
pub use Rattle.goal_search.proofs as goal_search
pub use Rattle.hir_facts.proofs.Words.{one_place}
pub use Rattle.hir_facts.proofs.CarriedBodies.{arguments_in_order, bind_has_no_parts, carried_parts, ctor_pattern, list_all_at}
pub use Rattle.hir_facts.proofs.InRange.{body_in_range}
pub use Rattle.hir_facts.proofs.Items.{unit_aliases, variant_adt, variant_ctor}
pub use Rattle.hir_facts.proofs.NoAliases.{field_direct, names_none, no_aliases, no_field_aliases, none_within, own_arity}
pub use Rattle.hir_facts.proofs.OpenedTypes.{Each, IsOver, over_field, over_input, over_output}
pub use Rattle.hir_facts.proofs.PlainFns.{kind_direct, plain_direct, type_direct}
pub use Rattle.hir_facts.proofs.Walkable.{asked_is_carried, carried_has_body, inputs_count}
pub use Rattle.goal_search.proofs.Words.{binds_of_all, get_from_take, get_last, get_left, get_more, get_set_other, get_set_same, log_of_append, resolved_made, closing_meets, binds_only_fallen, grew_by_hole, grew_by_nothing, grew_twice, hole_where_open, is_var_at, front_itself, grew_itself, waiting_count, left_from-push}
pub use Rattle.goal_search.proofs.Words.{IsWithin, deeper, next_within, no_at_more, one_deeper, refuted_more, within_itself, within_twice, yes_at_more, CopyYesBy, SizedNoBy, SizedYesBy, answers_stay, decided_answers_stay, shadows_not_filled, AliasIsRead, IsLevel, answers_read, level, reads_read, each_map, each_with, one_if, one_some, or_map, some_each, some_map, answers_are_one, answers_sound, head_tells, itself_or, key_tells, not_refuted, occurs_type, nth_one, yes_has_proofs, AliasWithin, MayReadBy, ReadsBy, apply_hole, hole_filling, may_here, read_filled, read_reads, reads_agree, reads_as_filled, reads_filled, reads_may, reads_one, reads_within, role_read, stands_by, selected_is_the_source, each_all, each_at, each_in_map, each_of_map, none_of, some_at, some_in_map, some_of_map}
pub use Rattle.goal_search.proofs.Words.{heads_resolved, pair_of, same_made, solution_filling}
pub use Rattle.goal_search.proofs.Heads.{may_done, reading_done, reads_at, reads_before, reads_itself}
pub use Rattle.goal_search.proofs.Only.{each_of_get, mapped_at}
