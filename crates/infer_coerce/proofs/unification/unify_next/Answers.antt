use Rattle.std.proofs.Common.{subst, sym}
use Rattle.infer_coerce.specs.Words.{TakesKnown, given_of}
use Rattle.infer_coerce.proofs.Unified.{first_unified, none_taken}
use Rattle.infer_coerce.proofs.unification.unify_next.Goals as goal

pub returns-in_ok-unify-in-Some : goal.returns-in_ok-unify-in-Some
returns-in_ok-unify-in-Some c =
    first_unified (given_of c.args.given.now) c.args.context.now c.requires.of_body c.requires.sound c.take_known.new.self c.unify.new.self c.in-Some.pair
    (subst (λ pair. TakesKnown c.args.context.now.goals.table c.take_known.new.self pair) c.in-Some.is c.in_ok-pair.ensures.taken)
    c.in_ok-unify-in-Some.field-0 c.in_ok-unify-in-Some.ensures.unified c.lawful.ensures.meets c.lawful.ensures.respects

pub returns-in-None : goal.returns-in-None
returns-in-None c =
    none_taken (given_of c.args.given.now) c.args.context.now c.take_known.new.self
    (subst (λ pair. TakesKnown c.args.context.now.goals.table c.take_known.new.self pair) c.in-None.is c.in_ok-pair.ensures.taken)
