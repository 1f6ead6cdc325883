use Rattle.std.proofs.Common.{◌≡◌, ap, get_or, replicate, None, rules}
use Rattle.hir_walk.proofs.Numbers.{numbered_none, numbered_more, numbered_all}
use Rattle.hir_walk.proofs.order.nodes_in_order.Goals as goal

pub loop-node-init : goal.loop-node-init
loop-node-init c b law =
    let none : c.in_ok-order.order.items ≡ replicate c.count_of.result None = search rules in
    numbered_none b c.args.schedule.now law c.in_ok-order.order.items (rw c.count_of.ensures at none)

pub loop-node-preserved : goal.loop-node-preserved
loop-node-preserved c b law = numbered_more b c.args.schedule.now law c.loop-node.node _ c.loop-node.order.items _ (c.loop-node.invariant b law) (rw c.as_slice-number-items.ensures at c.loop-node-test.true) (ap (λ xs. get_or xs c.loop-node.node 0) c.as_slice-number-items.ensures) c.note.ensures

pub returns : goal.returns
returns c b law = numbered_all b c.args.schedule.now law c.loop-node.node c.loop-node.order.items (c.loop-node.invariant b law) (rw c.as_slice-number-items.ensures at c.loop-node-test.false)
