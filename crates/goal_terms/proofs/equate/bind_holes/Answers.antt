use Rattle.std.proofs.Common.{sym, ◌∙◌, false}
use Rattle.std.proofs.lemmas.Bool.{both_ways}
use Rattle.goal_terms.specs.Words.{hole, hole_eq_flip, hole_respects}
use Rattle.goal_terms.proofs.Words.{unified_flip}
use Rattle.goal_terms.specs.Own.{term_of_hole, log_of}
use Rattle.goal_terms.proofs.Unifiers.{free_hole, extends_bind, unified_term}
use Rattle.goal_terms.proofs.equate.bind_holes.Goals as goal

pub returns-then-is_int_hole-clause-extends : goal.returns-then-is_int_hole-clause-extends
returns-then-is_int_hole-clause-extends c =
    let l = log_of c.args.log.now.items in
    extends_bind l _ c.args.y (hole c.args.x) _ (term_of_hole c.args.x) c.in_ok-bind.ensures.ok
    c.requires.is_log c.requires.right (free_hole l c.args.x c.requires.left)
    (hole_eq_flip c.args.x c.args.y false (sym c.is_same_hole.ensures.tested ∙ c.if-is_same_hole.false))
    (λ i. hole_respects c.args.x (c.is_int_hole.ensures.0 c.if-is_int_hole.true)) tt

pub returns-then-is_int_hole-clause-unified : goal.returns-then-is_int_hole-clause-unified
returns-then-is_int_hole-clause-unified c =
    let l = log_of c.args.log.now.items in
    unified_flip l _ (hole c.args.y) (hole c.args.x)
    (unified_term l _ c.args.y (hole c.args.x) _ (term_of_hole c.args.x) c.in_ok-bind.ensures.ok (free_hole l c.args.x c.requires.left))

pub returns-clause-extends : goal.returns-clause-extends
returns-clause-extends c =
    let l = log_of c.args.log.now.items in
    extends_bind l _ c.args.x (hole c.args.y) _ (term_of_hole c.args.y) c.in_ok-bind-2.ensures.ok
    c.requires.is_log c.requires.left (free_hole l c.args.y c.requires.right)
    (sym c.is_same_hole.ensures.tested ∙ c.if-is_same_hole.false)
    (λ i. absurd (both_ways c.is_int_hole.result c.if-is_int_hole.false (c.is_int_hole.ensures.1 i))) tt

pub returns-clause-unified : goal.returns-clause-unified
returns-clause-unified c =
    let l = log_of c.args.log.now.items in
    unified_term l _ c.args.x (hole c.args.y) _ (term_of_hole c.args.y) c.in_ok-bind-2.ensures.ok (free_hole l c.args.y c.requires.right)
