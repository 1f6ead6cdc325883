-- What this crate defines, from one place: for its code and proofs, and for the crates above.
pub use Rattle.hir_schedule.specs.Graph.{Edge, Follow, IsNumbering, IsTreeGraph, KidsFit, OneWay, end_at, kids_of, leads, number_after, start_at}
pub use Rattle.hir_schedule.specs.Nodes.{AllInBody, graph_of, node_lists, positions}
pub use Rattle.hir_schedule.specs.Visits.{Advances, Departs, HasRoomFor, MeetsAgain, MovesOn, Visited, advanced, blank, departed, entered, is_seen, next_of, unseen, visited_by}
