-- What this crate defines, from one place: for its code and proofs, and for the crates above.
pub use Rattle.hir_plain.specs.PlainGraph.{HasMarkedSignature, adt_children, field_ids, fine_nodes, is_fine_type, named_adt, plain_graph, type_children}
pub use Rattle.hir_plain.specs.Spread.{AddsUser, AreGood, AreUsers, ComesToBad, IsUnmarked, Marks, by_child, is_bad, marks_of, unmarked, users_at}
