use Rattle.std.proofs.Common.{◌≡◌, ◌<◌, length, get_or, Some, arith}
use Rattle.std.specs.Prelude.{slice_get}
use Rattle.std.proofs.lemmas.Option.{slice_get-get_or}
use Rattle.hir_plain.proofs.UsersOf.{adds_more}
use Rattle.hir_plain.proofs.spread.add_users.Goals as goal

pub loop-node-preserved : goal.loop-node-preserved
loop-node-preserved c =
    let found : slice_get c.args.used.now c.loop-node.node-index ≡ Some (get_or c.args.used.now c.loop-node.node-index 0) = slice_get-get_or c.args.used.now c.loop-node.node-index 0 c.loop-node-test.true in
    let within = c.requires c.loop-node.node-index (get_or c.args.used.now c.loop-node.node-index 0) found in
    let size : length c.loop-node.users.items ≡ length c.args.users.now.items = c.loop-node.invariant.size in
    let inside : get_or c.args.used.now c.loop-node.node-index 0 < length c.loop-node.users.items = omega arith in
    adds_more c.args.users.now.items c.loop-node.users.items c.add_user.new.users.items c.args.user c.args.used.now c.loop-node.node-index c.loop-node-test.true c.loop-node.invariant inside c.in_ok-add_user.ensures
