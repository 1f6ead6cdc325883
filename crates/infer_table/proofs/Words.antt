-- What this crate takes from those below it.
pub use Rattle.hir_types.proofs.ExactEquality.{AreExactAt, IsExactAt, by_tells, nat_tells, one_tells}
