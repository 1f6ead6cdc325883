use Rattle.std.proofs.Common.{◌∙◌, ap, arith}
use Rattle.hir_plain.proofs.UsersOf.{unmarked_kept, unmarked_more}
use Rattle.hir_plain.proofs.spread.unmarked_nodes.Goals as goal
use Rattle.hir_plain.proofs.spread.unmarked_nodes.Goals.{then-not-is_marked+in_ok-push, else-not-is_marked}

pub loop-node-preserved : goal.loop-node-preserved
loop-node-preserved c = elim c.if-not-is_marked.branch [
  | then-not-is_marked+in_ok-push w ↦ unmarked_more c.args.marks.now c.loop-node.node c.loop-node.nodes.items c.if-not-is_marked.nodes.items w.if-not-is_marked.true (ap (λ v. v.items) w.nodes-is ∙ w.in_ok-push.ensures.items) c.loop-node.invariant
  | else-not-is_marked w ↦ rw (ap (λ v. v.items) w.nodes-is) (unmarked_kept c.args.marks.now c.loop-node.node c.loop-node.nodes.items w.if-not-is_marked.false c.loop-node.invariant)
]

pub returns-clause-only : goal.returns-clause-only
returns-clause-only c n h = let o = c.loop-node.invariant.only n h in (omega arith, o.1)
