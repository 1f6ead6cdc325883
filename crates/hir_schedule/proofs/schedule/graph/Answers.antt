use Rattle.std.proofs.Common.{◌∙◌, ap, sym, List}
use Rattle.std.specs.Prelude.{slice_get}
use Rattle.hir_schedule.specs.Words.{ExprOrPatId}
use Rattle.hir_schedule.proofs.Schedules.{listed_inside}
use Rattle.hir_schedule.proofs.schedule.graph.Goals as goal

pub positions_of-requires-clause-nodes : goal.positions_of-requires-clause-nodes
positions_of-requires-clause-nodes c k x at =
    listed_inside c.args.body.now c.requires c.as_slice-nodes-items.result.now c.nodes-item.result c.loop-nodes.nodes-index k x (c.as_slice-nodes-items.ensures ∙ c.in_ok-lists.ensures)
    c.loop-nodes-test.true c.nodes-item.is (ap (λ (xs : List ExprOrPatId). slice_get xs k) (sym c.as_slice.ensures) ∙ at)
