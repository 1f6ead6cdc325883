-- What this crate takes from those below it.
pub use Rattle.hir_counts.proofs.Words.{schedule_unique, tree_of_schedule}
pub use Rattle.hir_counts.proofs.Words.{Passed, passed_all, passed_more, scheduled_at}
pub use Rattle.hir_counts.proofs.Words.{mention_said, mentions_within, said_mention, mentions_tell}
pub use Rattle.hir_counts.proofs.Drops.{drop_at}
pub use Rattle.hir_walk.proofs.Words.{nested, one_place, part_inside, parts_apart, under}
pub use Rattle.hir_walk.proofs.Around.{entry_last, entry_left, entry_of_push, still_open}
pub use Rattle.hir_walk.proofs.Numbers.{numbered_here, position_within}
pub use Rattle.hir_walk.proofs.Parents.{above, innermost_above, some_innermost}
