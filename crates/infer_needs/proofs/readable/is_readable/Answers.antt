use Rattle.std.proofs.Common.{◌≡◌, Bool, IfOk, IsTrue, ◌↔◌, subst, sym, ap, ◌∙◌, true≢false}
use Rattle.infer_needs.specs.Words.{Goal, scope_of, system, asked_goal, IsReadable}
use Rattle.hir_types.specs.declared.goal.Goal.TheVariants as the_goal
use Rattle.infer_needs.proofs.ReadableGoals.{readable_if}
use Rattle.infer_needs.proofs.readable.is_readable.Goals as goal

pub returns-else-branch : goal.returns-else-branch
returns-else-branch c =
    let sc = scope_of c.args.sources.now.facts c.args.def in
    let f = system c.args.sources.now.sources in
    let n = c.args.sources.now.facts.limits.goal_depth in
    let is : the_goal.Projection c.in-Projection.alias c.in-Projection.args c.in-Projection._ty ≡ c.args.goal.now =
    sym c.in-Projection.is ∙ c.in_ok-_trait_ref.ensures in
    subst (λ (g : Goal). IfOk c.is_known.result (λ yes. IsTrue yes ↔ IsReadable sc f n (asked_goal g))) is
    (readable_if sc f n c.in-Projection.alias c.in-Projection.args c.in-Projection._ty
    (λ h. true≢false (sym (c.in_ok-args_hold_unknown-in-Projection.ensures.1 h) ∙ c.if-branch.false)) c.is_known.result c.is_known.ensures)
