-- What this crate defines, from one place: for its code and proofs, and for the crates above.
pub use Rattle.infer_report.specs.LaterArgs.{later_arg_text, later_args_text}
