-- What this crate takes from those below it.
pub use Rattle.hir_types.specs.declared.ids.ExprId.{ExprId}
pub use Rattle.hir_types.specs.declared.ids.ExprOrPatId.{ExprOrPatId}
pub use Rattle.hir_types.specs.declared.ids.LabelId.{LabelId}
pub use Rattle.hir_types.specs.declared.ids.PatId.{PatId}
pub use Rattle.hir_raw.specs.Own.{AreDepths, Fits, HasOneWay, IsInBody, IsLow, IsNode, IsSchedule, Node, Part, PartsFit, Role, after, argument, arguments, arguments_from, arm, arm_parts, arm_patterns, arms_parts, body_parts, bound_sub, element, end, expr_part, expr_parts, exprs_from, follow, guard, inner, is_closure, is_wanted, later_nodes, later_parts, later_pat_nodes, maybe_part, node_count, nodes, only_if, param_parts, part_at, parts, parts_of_expr, parts_of_pat, pat_parts, position, root, start, stmt_parts, stmts_parts, subpatterns, tail, the_body}
pub use Rattle.hir_raw.specs.declared.later.LaterExpr.{LaterExpr}
pub use Rattle.hir_raw.specs.declared.later.LaterPat.{LaterPat}
pub use Rattle.hir_raw.specs.declared.raw.RawArm.{RawArm}
pub use Rattle.hir_raw.specs.declared.raw.RawBody.{RawBody}
pub use Rattle.hir_raw.specs.declared.raw.RawExpr.{RawExpr}
pub use Rattle.hir_raw.specs.declared.raw.RawPat.{RawPat}
pub use Rattle.hir_raw.specs.declared.raw.RawStmt.{RawStmt}
pub use Rattle.hir_raw.specs.declared.schedule.Schedule.{Schedule}
