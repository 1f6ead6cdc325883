-- What this crate takes from those below it.
pub use Rattle.goal_select.proofs.Words.{get_last, get_left, get_more, front_itself, hole_filling}
pub use Rattle.goal_select.proofs.Words.{IsWithin, yes_at_more, CopyYesBy, level, each_map, each_with, some_each, answers_are_one, answers_sound, head_tells, itself_or, key_tells, not_refuted, occurs_type, MayReadBy, ReadsBy, apply_hole, read_reads, reads_agree, reads_may, reads_one, reads_within, stands_by, each_all, each_at, each_in_map, each_of_map}
pub use Rattle.goal_select.proofs.Words.{may_done, reading_done, reads_at, reads_before, reads_itself, each_of_get, mapped_at}
pub use Rattle.goal_select.proofs.Words.{get_in_map, get_within, counted_more, args_holes, goal_holes, asked_itself, each_append, each_get, IsTypeTerm, entry_is, type_read_back, args_are, by_layers, layer, parts_by}
pub use Rattle.goal_select.proofs.Choices.{within}
pub use Rattle.goal_select.proofs.Clauses.{IsClosedFact, clause_closed}
pub use Rattle.goal_select.proofs.Params.{counted_at, counted_length}
pub use Rattle.goal_select.proofs.PartChoices.{parts_proved}
pub use Rattle.goal_select.proofs.PartSteps.{type_is}
