-- What this crate takes from those below it.
pub use Rattle.goal_facts.proofs.Words.{IsWithin, next_within, no_at_more, within_itself, within_twice, yes_at_more, SizedNoBy, SizedYesBy, answers_stay, answers_read, reads_read, each_map, one_if, or_map, some_each, some_map, answers_are_one, AliasWithin, reads_as_filled, reads_one, reads_within}
pub use Rattle.goal_facts.proofs.Words.{heads_resolved, pair_of, same_made, solution_filling}
pub use Rattle.goal_facts.proofs.Words.{reading_done}
pub use Rattle.goal_facts.proofs.Arguing.{list_is_head}
pub use Rattle.goal_facts.proofs.Systems.{answer_is, depth_is_small, each_append, each_get}
