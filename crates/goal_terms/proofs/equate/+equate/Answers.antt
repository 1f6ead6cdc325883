use Rattle.std.proofs.Common.{ap, sym, ◌∙◌, arith}
use Rattle.goal_terms.specs.Words.{found}
use Rattle.goal_terms.specs.Own.{term_of, log_of}
use Rattle.goal_terms.proofs.Owned.{some_of}
use Rattle.goal_terms.proofs.HeadLaws.{heads_found}
use Rattle.goal_terms.proofs.Unifiers.{after_bound, after_first}
use Rattle.goal_terms.proofs.equate.+equate.Goals as goal

pub equal_hole-make_equal-requires : goal.equal_hole-make_equal-requires
equal_hole-make_equal-requires t c =
    let bound = ap (λ xs. found (log_of xs) c.args.x) (sym c.deref.ensures.value) ∙ some_of term_of c.in_ok-bound.field-0 _ c.in-Some.bound c.in_ok-bound.ensures c.in-Some.is in
    (omega (arith, c.decreases), (c.requires.is_log, (heads_found (log_of c.args.log.now.items) c.args.x (term_of c.in-Some.bound) c.requires.is_log.heads bound, c.requires.heads)))

pub equal_hole-returns-in-Some-clause-unified : goal.equal_hole-returns-in-Some-clause-unified
equal_hole-returns-in-Some-clause-unified t c =
    let bound = ap (λ xs. found (log_of xs) c.args.x) (sym c.deref.ensures.value) ∙ some_of term_of c.in_ok-bound.field-0 _ c.in-Some.bound c.in_ok-bound.ensures c.in-Some.is in
    after_bound c.make_equal.result (log_of c.args.log.now.items) _ c.args.x (term_of c.in-Some.bound) (term_of c.args.term.now) bound c.make_equal.ensures.unified

pub equal_pairs-returns-clause-unified : goal.equal_pairs-returns-clause-unified
equal_pairs-returns-clause-unified t c =
    after_first c.make_equal-2.result c.in_ok-make_equal.field-0 (log_of c.args.log.now.items) _ _
    (term_of c.args.a.now) (term_of c.args.b.now) (term_of c.args.c.now) (term_of c.args.d.now)
    c.if-not-branch.false c.in_ok-make_equal.ensures.unified c.make_equal-2.ensures.unified
