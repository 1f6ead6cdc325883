-- What this crate takes from those below it.
pub use Rattle.hir_types.specs.declared.ids.ExprId.{ExprId}
pub use Rattle.hir_types.specs.declared.ids.ExprOrPatId.{ExprOrPatId}
pub use Rattle.hir_types.specs.declared.ids.PatId.{PatId}
pub use Rattle.hir_raw.specs.Own.{IsInBody, IsNode, IsSchedule, Node, Part, end, inner, node_count, part_at, parts, position, start, the_body}
pub use Rattle.hir_raw.specs.declared.raw.RawBody.{RawBody}
pub use Rattle.hir_raw.specs.declared.schedule.Schedule.{Schedule}
