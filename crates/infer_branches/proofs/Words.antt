-- What this crate takes from those below it.
pub use Rattle.infer_pat.proofs.Words.{grew_twice}
pub use Rattle.infer_pat.proofs.Words.{told_same, closes_before, expected_carried, follows_itself, follows_twice, walking_after, within_under, carried_expr, walks_paid, walks_refl, walks_trans, alternatives_less, arms_less, fine_bool, fine_expectation_grown, fine_grown, WalksParts, begins_parts, comes_to, goes_past, goes_past_coerced, alternative_kept, any_kept, arm_patterns_kept, arms_kept, at_kept, extends_refl, extends_trans, guard_kept, is_at_kept, drop-step, noted_extends, noted_has, noted_walks, carried_closed, fine_closed, after_append, ahead_left, ahead_rest, ahead_right, ahead_stands, arm_tells, no_telling_if, no_telling_match, carried_unit, closes_earlier, same_found}
pub use Rattle.infer_pat.proofs.Words.{owed_paid, later}
