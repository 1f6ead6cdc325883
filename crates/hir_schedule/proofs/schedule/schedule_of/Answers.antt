use Rattle.std.proofs.Common.{◌≡◌, ◌-◌, ◌∙◌, ℕ, List, ap, length, subst, sym, arith}
use Rattle.std.proofs.lemmas.Result.{IfOk-weaker}
use Rattle.hir_schedule.specs.Words.{position, the_body}
use Rattle.hir_schedule.specs.Own.{KidsFit}
use Rattle.hir_schedule.proofs.Bodies.{graph_size}
use Rattle.hir_schedule.proofs.Schedules.{kids_fit, answer_from_graph}
use Rattle.hir_schedule.proofs.schedule.schedule_of.Goals as goal

pub number_graph-requires-clause-fit : goal.number_graph-requires-clause-fit
number_graph-requires-clause-fit c = subst (λ (g : List (List ℕ)). KidsFit g) (sym c.in_ok-kids.ensures) (kids_fit c.args.body.now c.requires)

pub returns : goal.returns
returns c =
    let size = ap length c.in_ok-kids.ensures ∙ graph_size c.args.body.now in
    let root : c.len-root.result - 1 ≡ position c.args.body.now the_body = (let a = c.len-root.ensures in omega arith) in
    IfOk-weaker _ _ _ (λ s h. answer_from_graph c.args.body.now c.requires c.in_ok-kids.kids (c.len-root.result - 1) c.in_ok-kids.ensures root s h) c.number_graph.ensures
