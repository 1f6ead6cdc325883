-- What this crate takes from those below it.
pub use Rattle.hir_facts.proofs.Words.{schedule_unique, tree_of_schedule}
pub use Rattle.hir_facts.proofs.Broken.{Passed, breaks_here, first_breaks, not_all, passed_all, passed_more, passed_none, read_at}
pub use Rattle.hir_facts.proofs.InRange.{few_types}
pub use Rattle.hir_facts.proofs.PlainFns.{marked_inside}
pub use Rattle.hir_facts.proofs.Walkable.{scheduled_at}
