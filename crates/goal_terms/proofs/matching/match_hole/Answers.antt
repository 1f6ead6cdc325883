use Rattle.std.proofs.Common.{sym, ap, ◌∙◌}
use Rattle.goal_terms.specs.Words.{found}
use Rattle.goal_terms.specs.Own.{term_of, log_of}
use Rattle.goal_terms.proofs.Owned.{none_of}
use Rattle.goal_terms.proofs.Matches.{matched_bound}
use Rattle.goal_terms.proofs.matching.match_hole.Goals as goal

pub returns : goal.returns
returns c =
    let none = none_of (λ t. term_of t.now) c.find.result _ c.find.ensures c.in_default.is in
    matched_bound (log_of c.args.fills.now.items) _ c.args.met (term_of c.args.target.now) (term_of c.in_ok-target.target)
    (ap (λ xs. found (log_of xs) c.args.met) (sym c.deref.ensures.value) ∙ none) c.in_ok-target.ensures c.in_ok-bind.ensures.ok
