use Rattle.std.proofs.Common.{refl, sym, ◌∙◌}
use Rattle.std.proofs.lemmas.Bool.{both_ways}
use Rattle.goal_terms.specs.Words.{Kept}
use Rattle.goal_terms.specs.Own.{term_of, log_of}
use Rattle.goal_terms.proofs.Unifiers.{none_within, extends_bind, unified_term}
use Rattle.goal_terms.proofs.equate.bind_term.Goals as goal
use Rattle.goal_terms.proofs.equate.bind_term.Goals.{else-is_int_hole-via-then-is_int_hole+else-not-is_int, else-is_int_hole-via-else-is_int_hole}

pub returns-then-stands_in-clause-unified : goal.returns-then-stands_in-clause-unified
returns-then-stands_in-clause-unified c =
    none_within (log_of c.args.log.now.items) c.args.x (term_of c.args.term) c.requires.no_hole (sym c.stands_in.ensures ∙ c.if-stands_in.true)

pub returns-clause-extends : goal.returns-clause-extends
returns-clause-extends c =
    let kept : Kept c.args.x (term_of c.args.term) = elim c.else-is_int_hole.branch [
      | else-is_int_hole-via-then-is_int_hole+else-not-is_int w ↦ λ i. w.is_int.ensures.0 w.if-not-is_int.false
      | else-is_int_hole-via-else-is_int_hole w ↦ λ i. absurd (both_ways c.is_int_hole.result w.if-is_int_hole.false (c.is_int_hole.ensures.1 i))
    ] in
    extends_bind (log_of c.args.log.now.items) _ c.args.x (term_of c.args.term) _ refl c.in_ok-bind.ensures.ok
    c.requires.is_log c.requires.not_bound c.requires.none_bound (sym c.stands_in.ensures ∙ c.if-stands_in.false) kept c.requires.heads

pub returns-clause-unified : goal.returns-clause-unified
returns-clause-unified c =
    unified_term (log_of c.args.log.now.items) _ c.args.x (term_of c.args.term) _ refl c.in_ok-bind.ensures.ok c.requires.none_bound
