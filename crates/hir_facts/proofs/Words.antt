-- What this crate takes from those below it.
pub use Rattle.hir_raw.proofs.Aliases.{at_alias}
pub use Rattle.hir_raw.proofs.Ways.{one_place, schedule_unique, tree_of_schedule}
