-- What this crate takes from those below it.
pub use Rattle.goal_answers.proofs.Words.infer_table
pub use Rattle.goal_answers.proofs.Words.{binds_of_all, get_from_take, get_last, get_left, get_more, get_set_other, get_set_same, log_of_append, resolved_made, closing_meets, binds_only_fallen, head_decides, grew_by_hole, grew_by_nothing, grew_twice, hole_where_open, is_var_at, front_itself, grew_itself, SameUnder, unified_bind, unified_equal, unified_flip, unified_if_left, unified_if_put_in_right, unified_pair, waiting_count, left_from-push}
pub use Rattle.goal_answers.proofs.Deeper.{IsWithin, deeper, next_within, no_at_more, one_deeper, refuted_more, sized_yes_more, within_itself, within_twice, yes_at_more}
pub use Rattle.goal_answers.proofs.Filled.{CopyNoBy, CopyYesBy, SizedNoBy, SizedYesBy, answers_stay, decided_answers_stay, shadows_not_filled}
pub use Rattle.goal_answers.proofs.Fits.{not_refuted_here, part_here, preds_here, reading_here}
pub use Rattle.goal_answers.proofs.Levels.{AliasIsRead, FillsAreRead, IsLevel, answers_read, level, may_read, reads_read}
pub use Rattle.goal_answers.proofs.Lists.{each_map, each_with, one_if, one_some, or_map, some_each, some_map}
pub use Rattle.goal_answers.proofs.One.{answers_are_one, answers_sound, args_tell, copy_or, head_tells, itself_or, key_tells, not_refuted, occurs_key, occurs_type, proves_or_refuted, shadows_or_not, sized_or, source_or_none}
pub use Rattle.goal_answers.proofs.Parts.{last_one, nth_one}
pub use Rattle.goal_answers.proofs.Proved.{yes_has_proofs}
pub use Rattle.goal_answers.proofs.Readings.{AliasWithin, MayReadBy, ReadsBy, apply_hole, hole_filling, may_here, may_tells, read_filled, read_reads, reads_agree, reads_as_filled, reads_filled, reads_may, reads_one, reads_within, role_read, stands_by}
pub use Rattle.goal_answers.proofs.Sole.{selected_is_the_source}
pub use Rattle.goal_answers.proofs.Upto.{each_all, each_at, each_in_map, each_more, each_of_map, last_one_more, none_of, one_all, one_at, one_before, one_in_map, one_more, one_of_map, some_at, some_in_map, some_of_map}
