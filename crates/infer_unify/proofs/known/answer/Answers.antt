use Rattle.std.proofs.Common.{◌≡◌, ◌+◌, suc, sym, subst, arith}
use Rattle.hir_types.specs.declared.head.Hole.TheVariants as hole_of
use Rattle.infer_unify.specs.Words.{projects, term_of, term_of_hole, HasHeads, log_of, system}
use Rattle.infer_unify.proofs.Words.{answer_is}
use Rattle.infer_unify.specs.Own.{alias_of, goal_of}
use Rattle.infer_unify.proofs.Steps.{goal_heads, goal_is}
use Rattle.infer_unify.proofs.known.answer.Goals as goal

pub evaluate-requires : goal.evaluate-requires
evaluate-requires c =
    let l = log_of c.args.log.now in
    let p = alias_of c.args.alias.now in
    record {
      goal = record {
        heads = subst HasHeads (sym (goal_is l p (term_of c.in_ok-args.args) (term_of c.in_ok-known_pair.field-0) _ c.in_ok-args.ensures (term_of_hole (hole_of.Ty c.args.alias.now.hole)) c.in_ok-known_pair.ensures)) (goal_heads l p c.requires.is_log.heads c.requires.heads.1 c.requires.heads.0);
        fills = λ k o. record { read = tt; heads = tt };
      };
    }

pub returns-clause-answer : goal.returns-clause-answer
returns-clause-answer c =
    let l = log_of c.args.log.now in
    let p = alias_of c.args.alias.now in
    let next : c.args.depth + 1 ≡ suc c.args.depth = omega arith in
    let parts = goal_is l p (term_of c.in_ok-args.args) (term_of c.in_ok-known_pair.field-0) _ c.in_ok-args.ensures (term_of_hole (hole_of.Ty c.args.alias.now.hole)) c.in_ok-known_pair.ensures in
    let is : record { kind = projects p.alias; parts = term_of c.in_ok-known_pair.field-0 } ≡ goal_of l p = λ i. record { kind = projects p.alias; parts = parts i } in
    answer_is (system c.args.search.now) c.args.depth (c.args.depth + 1) _ (goal_of l p) c.evaluate.result next is c.evaluate.ensures.answer
