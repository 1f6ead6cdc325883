use Rattle.std.proofs.Common.{◌≡◌, ◌<◌, ◌∙◌, ap, subst, length, List, [], ℕ, arith}
use Rattle.std.proofs.lemmas.List.{get_or_read}
use Rattle.std.specs.Prelude.{slice_get, Some}
use Rattle.hir_plain.specs.Words.{kids_of, Edge}
use Rattle.hir_plain.specs.Own.{AddsUser}
use Rattle.hir_plain.proofs.UsersOf.{users_more}
use Rattle.hir_plain.proofs.spread.users_of.Goals as goal

pub add_users-requires : goal.add_users-requires
add_users-requires c k child found =
    let is : c.as_slice.result.now ≡ kids_of c.args.kids.now c.loop-node.node =
    c.as_slice.ensures ∙ (get_or_read c.as_slice-children-items.result.now c.loop-node.node c.children-item.result c.loop-node-test.true c.children-item.is [] ∙ ap (λ (ks : List (List ℕ)). kids_of ks c.loop-node.node) c.as_slice-children-items.ensures) in
    let edge : Edge c.args.kids.now c.loop-node.node k child = subst (λ (cs : List ℕ). slice_get cs k ≡ Some child) is found in
    let inside : child < length c.args.kids.now = c.requires c.loop-node.node k child edge in
    let size : length c.loop-node.users.items ≡ length c.args.kids.now = c.loop-node.invariant.size in
    omega arith

pub loop-node-preserved : goal.loop-node-preserved
loop-node-preserved c =
    let is : c.as_slice.result.now ≡ kids_of c.args.kids.now c.loop-node.node =
    c.as_slice.ensures ∙ (get_or_read c.as_slice-children-items.result.now c.loop-node.node c.children-item.result c.loop-node-test.true c.children-item.is [] ∙ ap (λ (ks : List (List ℕ)). kids_of ks c.loop-node.node) c.as_slice-children-items.ensures) in
    users_more c.args.kids.now c.loop-node.users.items c.add_users.new.users.items c.loop-node.node c.loop-node.invariant
    (subst (λ (cs : List ℕ). AddsUser c.loop-node.users.items c.add_users.new.users.items c.loop-node.node cs) is c.in_ok-add_users.ensures)
