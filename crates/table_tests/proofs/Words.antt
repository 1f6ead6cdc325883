-- What this crate takes from those below it.
pub use Rattle.infer_table.proofs.HoleLaws.{grew_by_taking}
