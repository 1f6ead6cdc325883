use Rattle.std.proofs.Common.{◌≡◌, sym, subst}
use Rattle.std.proofs.lemmas.Result.{IfOk-weaker}
use Rattle.infer_goals.specs.Words.{answers, system, AreProofsUnder}
use Rattle.infer_goals.proofs.Words.{proofs_of_tree}
use Rattle.infer_goals.proofs.table.GoalTable.proofs.Goals as goal

pub returns-clause-right : goal.returns-clause-right
returns-clause-right c =
    let raw = c.args.self.now.sources.facts in
    let f = system c.args.self.now.sources.sources in
    let P = (answers f raw.limits.goal_depth).Alias in
    let kept = c.requires in
    let t = c.args.self.now.obligations.tree in
    let under : AreProofsUnder raw f P c.args.self.now.table t.proofs.items = λ z filling meets. proofs_of_tree raw f P z (λ i. ⊥) t kept.tree (kept.right z filling meets) in
    IfOk-weaker c.proofs.result (λ made. made.items ≡ t.proofs.items) (λ made. AreProofsUnder raw f P c.args.self.now.table made.items) (λ made e. subst (AreProofsUnder raw f P c.args.self.now.table) (sym e) under) c.proofs.ensures
