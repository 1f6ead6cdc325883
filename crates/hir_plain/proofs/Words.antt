-- What this crate takes from those below it.
pub use Rattle.hir_ids.proofs.Words.{few_types, marked_inside}
