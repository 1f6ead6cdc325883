-- What this crate takes from those below it.
pub use Rattle.hir_types.proofs.Equal.{ty_decides, ty_eq}
pub use Rattle.infer_goals.proofs.Words.{get_last, get_left, get_more, front_itself}
pub use Rattle.infer_goals.proofs.Words.{one_deeper, refuted_more, within_itself, decided_answers_stay, answers_read, reads_read, each_with, one_some, or_map, answers_are_one, answers_sound, occurs_type, yes_has_proofs, AliasWithin, MayReadBy, ReadsBy, hole_filling, read_reads, reads_may, reads_one, reads_within, role_read, stands_by, each_all}
pub use Rattle.infer_goals.proofs.Words.{pair_of}
pub use Rattle.infer_goals.proofs.Words.{get_in_map, get_mapped, answer_is, depth_is_small, each_append, each_get, args_are, layer, layer_is, parts_by, type_layer}
pub use Rattle.goal_prove.proofs.Aliases.{aliases_good}
pub use Rattle.goal_prove.proofs.Children.{child_later}
pub use Rattle.goal_prove.proofs.TypeTerms.{top_type}
pub use Rattle.goal_prove.proofs.Typing.{goal_reads, no_bound, no_principal}
pub use Rattle.infer_result.proofs.Columns.{every_type, types_beside, types_both}
pub use Rattle.infer_result.proofs.Samples.Calling.{body, function, item, top_arg}
pub use Rattle.infer_result.proofs.Samples.Constructors.{adt, adt_of, v, variant_of}
pub use Rattle.infer_result.proofs.Samples.Small.{b, body_of, body_with, e, all_types_by, facts_with, function_of, one_u8, only, p, plain, u8, u8_is_no_error, w, TypesHave}
pub use Rattle.goal_prove.proofs.Words.{apply_hole, goal_holes, asked_itself}
pub use Rattle.infer_result.proofs.InHand.{hand_same}
