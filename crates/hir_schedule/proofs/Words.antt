-- What this crate takes from those below it.
pub use Rattle.hir_raw.proofs.Ways.{depth_is_steps, way_to, way_to_node}
