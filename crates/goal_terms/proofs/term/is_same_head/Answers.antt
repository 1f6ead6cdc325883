use Rattle.std.proofs.Common.{sym, ◌∙◌}
use Rattle.goal_terms.proofs.Words.{head_decides}
use Rattle.goal_terms.proofs.term.is_same_head.Goals as goal

pub returns : goal.returns
returns c = let d = head_decides c.args.left c.args.right in (λ h. d.0 (sym c.eq.ensures ∙ h), λ e. c.eq.ensures ∙ d.1 e)
