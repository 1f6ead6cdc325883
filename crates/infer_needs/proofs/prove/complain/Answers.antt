use Rattle.std.proofs.Common.{inl, inr, refl, subst}
use Rattle.std.proofs.lemmas.Result.{on_ok_weaker}
use Rattle.infer_needs.specs.Words.{system, asked_goal, scope_of}
use Rattle.infer_needs.specs.Own.{MayHoldIf}
use Rattle.infer_needs.proofs.prove.complain.Goals as goal

pub returns-then-branch : goal.returns-then-branch
returns-then-branch c =
    let f = system c.args.sources.now.sources in
    let n = c.args.sources.now.facts.limits.goal_depth in
    inl (subst (MayHoldIf (scope_of c.args.sources.now.facts c.args.def) f n (asked_goal c.args.goal)) c.if-branch.true c.in_ok-may_hold.ensures, refl)

pub returns : goal.returns
returns c =
    let f = system c.args.sources.now.sources in
    let n = c.args.sources.now.facts.limits.goal_depth in
    let cannot = subst (MayHoldIf (scope_of c.args.sources.now.facts c.args.def) f n (asked_goal c.args.goal)) c.if-branch.false c.in_ok-may_hold.ensures in
    on_ok_weaker c.say.result (λ said. inr (cannot, said)) c.say.ensures
