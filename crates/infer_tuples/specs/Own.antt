-- What this crate defines, from one place: for its code and proofs, and for the crates above.
pub use Rattle.infer_tuples.specs.Tuples.{IsTupleOf}
