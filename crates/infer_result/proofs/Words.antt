-- What this crate takes from those below it.
pub use Rattle.hir_types.proofs.Layers.{has_hole_adt, has_hole_bool, has_hole_char, has_hole_error, has_hole_fn_def, has_hole_integer, has_hole_param, has_hole_tuple}
pub use Rattle.goal_facts.proofs.Words.{one_place}
pub use Rattle.goal_facts.proofs.Words.{Each, IsOver, over_field, over_input, over_output}
