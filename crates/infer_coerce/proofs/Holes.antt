-- New holes, and the types of literals.
use Rattle.std.proofs.Common.{refl}
use Rattle.infer_coerce.specs.Words.{HoleKind, Scope, with_new_hole, waiting, with_table, InferenceContext, IsSound}
use Rattle.infer_coerce.proofs.Words.{grew_by_hole, table_fine_grown, seen_fine_grown, fine_asked_grown, fine_pairs_grown, kept_later}

-- with one hole more
abbrev pub holed : InferenceContext → HoleKind → InferenceContext
holed c k = with_table c (with_new_hole c.goals.table k)

pub holed_sound : {sc : Scope} (c : InferenceContext) (k : HoleKind) → IsSound sc c → IsSound sc (holed c k)
holed_sound c k s = record {
  fine = table_fine_grown _ c.goals.table (with_new_hole c.goals.table k) c.result (grew_by_hole c.goals.table (with_new_hole c.goals.table k) k refl) s.fine;
  seen = seen_fine_grown _ c.goals.table (with_new_hole c.goals.table k) c.result (grew_by_hole c.goals.table (with_new_hole c.goals.table k) k refl) s.seen;
  asked = fine_asked_grown _ c.goals.table (with_new_hole c.goals.table k) c.asked (grew_by_hole c.goals.table (with_new_hole c.goals.table k) k refl) s.asked;
  kept = kept_later c.goals.table (with_new_hole c.goals.table k) c.asked (grew_by_hole c.goals.table (with_new_hole c.goals.table k) k refl) refl s.kept;
  pairs = fine_pairs_grown _ c.goals.table (with_new_hole c.goals.table k) (waiting c.goals.table.pairs) (grew_by_hole c.goals.table (with_new_hole c.goals.table k) k refl) s.pairs;
  bound = s.bound;
  some = (s.some.0, record { closing = s.some.1.closing; meets = s.some.1.meets });
}
