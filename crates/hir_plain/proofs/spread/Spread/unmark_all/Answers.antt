use Rattle.std.proofs.Common.{◌≡◌, ◌∙◌, ap, length, take, get_or, Some, arith}
use Rattle.std.specs.Prelude.{slice_get}
use Rattle.std.proofs.lemmas.Option.{slice_get-get_or}
use Rattle.hir_plain.specs.Own.{Marks, marks_of}
use Rattle.hir_plain.proofs.Spreading.{same_size}
use Rattle.hir_plain.proofs.spread.Spread.unmark_all.Goals as goal

pub unmark-requires : goal.unmark-requires
unmark-requires c =
    let found : slice_get c.args.nodes.now c.loop-node.node-index ≡ Some (get_or c.args.nodes.now c.loop-node.node-index 0) = slice_get-get_or c.args.nodes.now c.loop-node.node-index 0 c.loop-node-test.true in
    let inside = c.requires c.loop-node.node-index (get_or c.args.nodes.now c.loop-node.node-index 0) found in
    let size : length c.loop-node.self.good.items ≡ length c.args.self.now.good.items =
    ap (λ (m : Marks). length m.good) c.loop-node.invariant ∙ same_size (take c.loop-node.node-index c.args.nodes.now) (marks_of c.args.self.now) in
    omega arith
