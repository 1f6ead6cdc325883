-- What this crate takes from those below it.
pub use Rattle.hir_raw.proofs.Ways.{Under, Reached, nested, one_place, part_inside, parts_apart, reached_by, tree_of_schedule, under}
