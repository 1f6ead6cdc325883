-- What this crate takes from those below it.
pub use Rattle.infer_coerce.proofs.Words.{grew_by_hole}
pub use Rattle.infer_coerce.proofs.Words.{told_same, closes_before, follows_twice, walks_paid, kind_for_any, within_for_any, all_fine_grown, fine_element, fine_expectation_grown, fine_grown, fine_hole, fine_push, fine_tuple, AtPart, all_past, begins_parts, comes_to_part, expr_at, past_coerced_part, all_kept, rule_of, slice_get-append_left, slice_get-push, take_next, fine_closed, all_push, tuple_tells, closes_earlier}
pub use Rattle.infer_coerce.proofs.Coercions.{coerced_clock, coerced_placed, coerced_walks, placed_at, placed_owed}
pub use Rattle.infer_coerce.proofs.Holes.{holed_sound}
pub use Rattle.infer_coerce.proofs.Later.{later}
pub use Rattle.infer_coerce.proofs.Resolved.{resolved_fine}
