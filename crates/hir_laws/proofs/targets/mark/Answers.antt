use Rattle.std.proofs.Common.{◌≡◌, ◌+◌, Some, refl, sym, ◌∙◌, ap, subst}
use Rattle.std.specs.Prelude.{MatchBool, IsTrue, ◌↔◌}
use Rattle.hir_types.specs.declared.ids.ExprOrPatId.TheVariants as node
use Rattle.hir_laws.specs.Words.{PatId, IsAssigned, IsNode, inner, position, start}
use Rattle.hir_laws.specs.Own.{AreMarkedSoFar, PlacesFit, pattern_index}
use Rattle.hir_laws.proofs.Assigning.{marks_kept, marks_more, no_pattern_there, pattern_there}
use Rattle.hir_laws.proofs.targets.mark.Goals as goal

pub returns-in_default : goal.returns-in_default
returns-in_default c s n law is there at around h =
    (refl, marks_kept c.args.body.now s c.args.number c.args.assigned.now.marks.items (no_pattern_there c.args.body.now s law c.args.number n is at (rw there (sym c.pattern_index.ensures ∙ c.in_default.is))) h)

pub returns : goal.returns
returns c s n law is there at around h =
    let p : PatId = record { 0 = c.in-Some.pat } in
    let here : pattern_index c.args.body.now (position c.args.body.now n) ≡ Some c.in-Some.pat = rw there (sym c.pattern_index.ensures ∙ c.in-Some.is) in
    let same : n ≡ inner (node.PatId p) = pattern_there c.args.body.now n c.in-Some.pat is here in
    let p_is : IsNode c.args.body.now (inner (node.PatId p)) = subst (IsNode c.args.body.now) same is in
    let p_at : start c.args.body.now s (inner (node.PatId p)) ≡ c.args.number = ap (start c.args.body.now s) (sym same) ∙ at in
    let says : IsTrue c.is_assigned-told.result ↔ IsAssigned c.args.body.now p = c.is_assigned-told.ensures s p law refl p_is p_at around h in (
      refl,
      subst (λ c2. MatchBool c2 (AreMarkedSoFar c.args.body.now s (c.args.number + 1) c.note.new.marks.items) (PlacesFit c.args.body.now → ⊥)) (sym c.may_stand.ensures)
          (marks_more c.args.body.now s law c.args.number p p_is p_at c.is_assigned-told.result c.args.assigned.now.marks.items c.note.new.marks.items h says c.note.ensures),
    )
