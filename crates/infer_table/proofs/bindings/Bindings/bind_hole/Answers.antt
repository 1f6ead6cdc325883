use Rattle.std.proofs.Common.{sym, ap, subst, ◌∙◌}
use Rattle.infer_table.specs.Words.{Term, hole, term, outline_term}
use Rattle.infer_table.specs.Own.{IsResolved}
use Rattle.infer_table.proofs.Unifying.{type_hole, resolved_hole, unifies_put_in_right}
use Rattle.infer_table.proofs.bindings.Bindings.bind_hole.Goals as goal

pub bind_holes-requires-clause-right : goal.bind_holes-requires-clause-right
bind_holes-requires-clause-right c =
    let e = sym (ap outline_term c.in-Hole.is) ∙ c.in_ok-y.ensures in
    let P : Term → Type 0 = IsResolved c.args.self.now in
    resolved_hole c.args.self.now c.in-Hole.y (type_hole c.in_ok-known.known c.in-Hole.y e) (subst P (sym e) c.in_ok-known.ensures.none_bound)

pub returns-in-Hole-clause-unified : goal.returns-in-Hole-clause-unified
returns-in-Hole-clause-unified c =
    unifies_put_in_right c.bind_holes.result _ _ (hole c.args.x) (term c.args.ty.now) (hole c.in-Hole.y)
    (sym (ap outline_term c.in-Hole.is) ∙ c.in_ok-y.ensures ∙ c.in_ok-known.ensures.same) c.bind_holes.ensures.unified

pub returns-clause-unified : goal.returns-clause-unified
returns-clause-unified c =
    unifies_put_in_right c.bind_type.result _ _ (hole c.args.x) (term c.args.ty.now) (term c.in_ok-known.known)
    c.in_ok-known.ensures.same c.bind_type.ensures.unified
