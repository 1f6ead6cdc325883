use Rattle.std.proofs.Common.{refl, ap, ◌∙◌}
use Rattle.goal_terms.specs.Words.{hole, resolved}
use Rattle.goal_terms.specs.Own.{term_of, log_of}
use Rattle.goal_terms.proofs.Unifiers.{known_free, known_heads, known_hole, after_known}
use Rattle.goal_terms.proofs.equate.bind_hole.Goals as goal

pub bind_holes-requires-clause-right : goal.bind_holes-requires-clause-right
bind_holes-requires-clause-right c =
    let known = c.in_ok-known.ensures ∙ ap (λ xs. resolved (log_of xs) (term_of c.args.term.now)) c.deref.ensures.value in
    known_hole (log_of c.args.log.now.items) (term_of c.args.term.now) (term_of c.in_ok-known.known) c.requires.is_log known c.in-Some.y c.in-Some.ensures

pub bind_term-requires-clause-heads : goal.bind_term-requires-clause-heads
bind_term-requires-clause-heads c =
    let known = c.in_ok-known.ensures ∙ ap (λ xs. resolved (log_of xs) (term_of c.args.term.now)) c.deref.ensures.value in
    known_heads (log_of c.args.log.now.items) (term_of c.args.term.now) (term_of c.in_ok-known.known) c.requires.is_log known c.requires.heads

pub bind_term-requires-clause-none_bound : goal.bind_term-requires-clause-none_bound
bind_term-requires-clause-none_bound c =
    let known = c.in_ok-known.ensures ∙ ap (λ xs. resolved (log_of xs) (term_of c.args.term.now)) c.deref.ensures.value in
    known_free (log_of c.args.log.now.items) (term_of c.args.term.now) (term_of c.in_ok-known.known) c.requires.is_log known

pub returns-in-Some-clause-unified : goal.returns-in-Some-clause-unified
returns-in-Some-clause-unified c =
    let known = c.in_ok-known.ensures ∙ ap (λ xs. resolved (log_of xs) (term_of c.args.term.now)) c.deref.ensures.value in
    after_known (log_of c.args.log.now.items) (term_of c.args.term.now) (term_of c.in_ok-known.known) c.requires.is_log known
    c.bind_holes.result _ (hole c.args.x) (hole c.in-Some.y) c.in-Some.ensures c.bind_holes.ensures.unified

pub returns-in-None-clause-unified : goal.returns-in-None-clause-unified
returns-in-None-clause-unified c =
    let known = c.in_ok-known.ensures ∙ ap (λ xs. resolved (log_of xs) (term_of c.args.term.now)) c.deref.ensures.value in
    after_known (log_of c.args.log.now.items) (term_of c.args.term.now) (term_of c.in_ok-known.known) c.requires.is_log known
    c.bind_term.result _ (hole c.args.x) (term_of c.in_ok-known.known) refl c.bind_term.ensures.unified
