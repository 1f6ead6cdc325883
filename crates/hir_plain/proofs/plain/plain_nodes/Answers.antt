use Rattle.std.proofs.Common.{◌≡◌, ◌∙◌, sym, subst, ℕ, List, Bool}
use Rattle.std.proofs.lemmas.Result.{IfOk-weaker}
use Rattle.hir_plain.specs.Words.{KidsFit}
use Rattle.hir_plain.specs.Own.{AreGood, fine_nodes}
use Rattle.hir_plain.proofs.Words.{few_types}
use Rattle.hir_plain.proofs.PlainGraph.{graph_fits, plain_nodes}
use Rattle.hir_plain.proofs.plain.plain_nodes.Goals as goal

pub graph_of-requires : goal.graph_of-requires
graph_of-requires c = few_types c.args.raw.now c.requires

pub good_nodes-requires-clause-fit : goal.good_nodes-requires-clause-fit
good_nodes-requires-clause-fit c = subst (λ (kids : List (List ℕ)). KidsFit kids) (sym c.in_ok-kids.ensures) (graph_fits c.args.raw.now c.requires)

pub returns : goal.returns
returns c =
    let fine : c.deref.result.now ≡ fine_nodes c.args.raw.now = c.deref.ensures.value ∙ c.in_ok-fine.ensures in
    IfOk-weaker c.good_nodes.result _ _ (λ v good. plain_nodes c.args.raw.now c.requires v.items
    (subst (λ (kids : List (List ℕ)). AreGood kids (fine_nodes c.args.raw.now) v.items) c.in_ok-kids.ensures
    (subst (λ (f : List Bool). AreGood c.in_ok-kids.kids f v.items) fine good))) c.good_nodes.ensures
