use Rattle.std.proofs.Common.{sym, ap, ◌∙◌}
use Rattle.goal_terms.specs.Words.{role}
use Rattle.goal_terms.specs.Own.{term_of, role_of, log_of}
use Rattle.goal_terms.proofs.Owned.{pair_of}
use Rattle.goal_terms.proofs.Matches.{after_pair}
use Rattle.goal_terms.proofs.matching.+match_into.Goals as goal

pub returns-else-not-branch : goal.returns-else-not-branch
returns-else-not-branch t c =
    after_pair c.match_into-in-Pair-target.result c.in_ok-match_into-in-Pair-target.field-0
    (log_of c.args.fills.now.items) _ _ (term_of c.args.part.now) (term_of c.args.target.now) _ _ _ _
    (pair_of c.args.part.now c.in-Pair.left c.in-Pair.right c.get-in-Pair-target.result.now c.get-in-Pair-target-3.result.now c.in-Pair.is c.get-in-Pair-target.ensures c.get-in-Pair-target-3.ensures)
    (pair_of c.args.target.now c.in-Pair-target.target_left c.in-Pair-target.target_right _ c.get-in-Pair-target-4.result.now c.in-Pair-target.is c.get-in-Pair-target-2.ensures c.get-in-Pair-target-4.ensures)
    (ap (λ x. role (term_of x)) (c.get-in-Pair-target.ensures ∙ sym c.get.ensures) ∙ sym c.role.ensures ∙ ap role_of c.in-Plain.is) c.if-not-branch.false
    c.in_ok-match_into-in-Pair-target.ensures c.match_into-in-Pair-target.ensures
