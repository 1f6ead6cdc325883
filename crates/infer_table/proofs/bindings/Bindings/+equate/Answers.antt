use Rattle.std.proofs.Common.{refl, sym, ap, subst, ◌∙◌, length, arith}
use Rattle.std.proofs.lemmas.Option.{slice_get_read}
use Rattle.infer_table.specs.Words.{Term, hole, term, outline_term}
use Rattle.infer_table.specs.Own.{log_of, resolved, IsResolved}
use Rattle.infer_table.proofs.Unifying.{more_bindings, type_hole, resolved_hole, unifies_put_in_left, part_made, none_nodes_length, none_nodes_part, unified_nodes_part, unified_nodes}
use Rattle.infer_table.proofs.bindings.Bindings.+equate.Goals as goal

pub equate_hole-bind_hole-requires-clause-is_open : goal.equate_hole-bind_hole-requires-clause-is_open
equate_hole-bind_hole-requires-clause-is_open t c =
    let e = sym (ap outline_term c.in-Hole.is) ∙ c.in_ok-y.ensures in
    let P : Term → Type 0 = IsResolved c.args.self.now in
    resolved_hole c.args.self.now c.in-Hole.y (type_hole c.in_ok-known.known c.in-Hole.y e) (subst P (sym e) c.in_ok-known.ensures.none_bound)

pub equate_hole-returns-in-Hole-clause-unified : goal.equate_hole-returns-in-Hole-clause-unified
equate_hole-returns-in-Hole-clause-unified t c =
    unifies_put_in_left c.bind_hole.result _ _ (hole c.args.x) (hole c.in-Hole.y) (term c.args.ty.now)
    (sym (ap outline_term c.in-Hole.is) ∙ c.in_ok-y.ensures ∙ c.in_ok-known.ensures.same ∙ ap (resolved (log_of c.args.self.now.log)) c.hole_type.ensures)
    c.bind_hole.ensures.unified

pub equate_hole-returns-clause-unified : goal.equate_hole-returns-clause-unified
equate_hole-returns-clause-unified t c =
    unifies_put_in_left c.equate.result _ _ (hole c.args.x) (term c.in_ok-known.known) (term c.args.ty.now)
    (c.in_ok-known.ensures.same ∙ ap (resolved (log_of c.args.self.now.log)) c.hole_type.ensures)
    c.equate.ensures.unified

pub equate_nodes-returns-then-left-right-clause-unified : goal.equate_nodes-returns-then-left-right-clause-unified
equate_nodes-returns-then-left-right-clause-unified t c =
    none_nodes_length (log_of c.args.self.now.log) c.args.left_head c.args.right_head c.args.left.now c.args.right.now c.if-left-right.true

pub equate_nodes-equate_part-requires : goal.equate_nodes-equate_part-requires
equate_nodes-equate_part-requires t c =
    let x = slice_get_read c.args.left.now (length c.args.left.now) c.loop-i.i c.index-left-i.result refl (omega arith) c.index-left-i.is in
    let y = slice_get_read c.args.right.now (length c.args.right.now) c.loop-i.i c.index-right-i.result refl (omega arith) c.index-right-i.is in (
      omega (arith, c.decreases),
      (
        part_made c.args.self.now c.loop-i.self c.args.left_head c.args.left.now c.loop-i.i c.index-left-i.result c.loop-i.invariant.binds x c.requires.left,
        part_made c.args.self.now c.loop-i.self c.args.right_head c.args.right.now c.loop-i.i c.index-right-i.result c.loop-i.invariant.binds y c.requires.right,
      ),
    )

pub equate_nodes-returns-then-not-branch-clause-unified : goal.equate_nodes-returns-then-not-branch-clause-unified
equate_nodes-returns-then-not-branch-clause-unified t c =
    let x = slice_get_read c.args.left.now (length c.args.left.now) c.loop-i.i c.index-left-i.result refl (omega arith) c.index-left-i.is in
    let y = slice_get_read c.args.right.now (length c.args.right.now) c.loop-i.i c.index-right-i.result refl (omega arith) c.index-right-i.is in
    none_nodes_part (log_of c.args.self.now.log) (log_of c.loop-i.self.log) c.args.left_head c.args.right_head c.args.left.now c.args.right.now c.loop-i.i
    c.index-left-i.result c.index-right-i.result c.in_ok-equate_part.field-0 c.if-left-right.false x y c.loop-i.invariant.unified c.if-not-branch.true
    (log_of c.equate_part.new.self.log) c.in_ok-equate_part.ensures.unified

pub equate_nodes-loop-i-preserved : goal.equate_nodes-loop-i-preserved
equate_nodes-loop-i-preserved t c =
    let x = slice_get_read c.args.left.now (length c.args.left.now) c.loop-i.i c.index-left-i.result refl (omega arith) c.index-left-i.is in
    let y = slice_get_read c.args.right.now (length c.args.right.now) c.loop-i.i c.index-right-i.result refl (omega arith) c.index-right-i.is in
    record {
      unified =
          unified_nodes_part (log_of c.args.self.now.log) (log_of c.loop-i.self.log) (log_of c.equate_part.new.self.log) c.args.left.now c.args.right.now c.loop-i.i
          c.index-left-i.result c.index-right-i.result c.in_ok-equate_part.field-0 x y c.loop-i.invariant.unified c.if-not-branch.false
          c.in_ok-equate_part.ensures.unified;
      binds = more_bindings c.args.self.now c.loop-i.self c.equate_part.new.self c.loop-i.invariant.binds c.in_ok-equate_part.ensures.binds;
    }

pub equate_nodes-returns-clause-unified : goal.equate_nodes-returns-clause-unified
equate_nodes-returns-clause-unified t c =
    unified_nodes (log_of c.args.self.now.log) (log_of c.loop-i.self.log) c.args.left_head c.args.right_head c.args.left.now c.args.right.now c.loop-i.i
    (c.is_same_head.ensures.0 c.if-not-is_same_head.false) c.if-left-right.false (omega arith) c.loop-i.invariant.unified
