-- What this crate takes from those below it.
pub use Rattle.infer_goals.proofs.Words.{grew_by_hole, grew_twice}
pub use Rattle.infer_goals.proofs.Steps.{went_grew}
