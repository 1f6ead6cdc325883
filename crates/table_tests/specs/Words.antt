-- What this crate takes from those below it.
pub use Rattle.infer_table.specs.Own.{Grew, HolesAreOf}
