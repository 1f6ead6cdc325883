use Rattle.std.proofs.Common.{◌≡◌, ◌<◌, ◌+◌, ◌∙◌, ap, sym, subst, fold, length, List, [], ℕ, arith}
use Rattle.std.specs.Prelude.{slice_get, Some}
use Rattle.std.proofs.lemmas.List.{get_or_read}
use Rattle.hir_plain.specs.Own.{Marks, marks_of, unmarked, users_at}
use Rattle.hir_plain.proofs.Spreading.{Spreading, Taking, marked_count, spreading_begun, users_inside, node_inside, spreading_on, fewer_left, after}
use Rattle.hir_plain.proofs.spread.good_nodes.Goals as goal

pub loop-node-init : goal.loop-node-init
loop-node-init c = spreading_begun c.args.kids.now c.args.fine.now c.in_ok-from_slice.field-0.items c.in_ok-unmarked_nodes.field-0.items c.requires.fit c.requires.size c.in_ok-from_slice.ensures.items c.in_ok-unmarked_nodes.ensures.all c.in_ok-unmarked_nodes.ensures.only

pub index-requires : goal.index-requires
index-requires c =
    let t : Taking c.args.kids.now c.in_ok-users.users.items c.args.fine.now (marks_of c.loop-node.spread) c.pop.new.self.items c.in-Some.node =
    record { spreading = c.loop-node.invariant; right = c.in_ok-users.ensures; split = c.in-Some.ensures.items } in
    let inside : c.in-Some.node < length c.args.kids.now = node_inside c.args.kids.now c.in_ok-users.users.items c.args.fine.now (marks_of c.loop-node.spread) c.pop.new.self.items c.in-Some.node t in
    let size : length c.in_ok-users.users.items ≡ length c.args.kids.now = c.in_ok-users.ensures.size in
    omega arith

pub unmark_all-requires : goal.unmark_all-requires
unmark_all-requires c k n found =
    let t : Taking c.args.kids.now c.in_ok-users.users.items c.args.fine.now (marks_of c.loop-node.spread) c.pop.new.self.items c.in-Some.node =
    record { spreading = c.loop-node.invariant; right = c.in_ok-users.ensures; split = c.in-Some.ensures.items } in
    let inside : c.in-Some.node < length c.args.kids.now = node_inside c.args.kids.now c.in_ok-users.users.items c.args.fine.now (marks_of c.loop-node.spread) c.pop.new.self.items c.in-Some.node t in
    let size : length c.in_ok-users.users.items ≡ length c.args.kids.now = c.in_ok-users.ensures.size in
    let same : length c.loop-node.spread.good.items ≡ length c.args.kids.now = c.loop-node.invariant.size in
    let is : c.as_slice.result.now ≡ users_at c.in_ok-users.users.items c.in-Some.node = c.as_slice.ensures ∙ get_or_read c.in_ok-users.users.items c.in-Some.node c.index.result.now (omega arith) c.index.ensures [] in
    let below : n < length c.args.kids.now =
    users_inside c.args.kids.now c.in_ok-users.users.items (length c.args.kids.now) c.in-Some.node k n c.in_ok-users.ensures (subst (λ (us : List ℕ). slice_get us k ≡ Some n) is found) in
    omega arith

pub loop-node-smaller : goal.loop-node-smaller
loop-node-smaller c =
    let t : Taking c.args.kids.now c.in_ok-users.users.items c.args.fine.now (marks_of c.loop-node.spread) c.pop.new.self.items c.in-Some.node =
    record { spreading = c.loop-node.invariant; right = c.in_ok-users.ensures; split = c.in-Some.ensures.items } in
    let inside : c.in-Some.node < length c.args.kids.now = node_inside c.args.kids.now c.in_ok-users.users.items c.args.fine.now (marks_of c.loop-node.spread) c.pop.new.self.items c.in-Some.node t in
    let size : length c.in_ok-users.users.items ≡ length c.args.kids.now = c.in_ok-users.ensures.size in
    let is : c.as_slice.result.now ≡ users_at c.in_ok-users.users.items c.in-Some.node = c.as_slice.ensures ∙ get_or_read c.in_ok-users.users.items c.in-Some.node c.index.result.now (omega arith) c.index.ensures [] in
    let made : marks_of c.unmark_all.new.self ≡ after c.args.kids.now c.in_ok-users.users.items c.args.fine.now (marks_of c.loop-node.spread) c.pop.new.self.items c.in-Some.node t =
    c.in_ok-unmark_all.ensures ∙ ap (λ (us : List ℕ). fold unmarked (record { good = c.loop-node.spread.good.items; waiting = c.pop.new.self.items }) us) is in
    subst (λ (m : Marks). marked_count m.good + length m.waiting < marked_count c.loop-node.spread.good.items + length c.loop-node.spread.waiting.items) (sym made)
    (fewer_left c.args.kids.now c.in_ok-users.users.items c.args.fine.now (marks_of c.loop-node.spread) c.pop.new.self.items c.in-Some.node t)

pub loop-node-preserved : goal.loop-node-preserved
loop-node-preserved c =
    let t : Taking c.args.kids.now c.in_ok-users.users.items c.args.fine.now (marks_of c.loop-node.spread) c.pop.new.self.items c.in-Some.node =
    record { spreading = c.loop-node.invariant; right = c.in_ok-users.ensures; split = c.in-Some.ensures.items } in
    let inside : c.in-Some.node < length c.args.kids.now = node_inside c.args.kids.now c.in_ok-users.users.items c.args.fine.now (marks_of c.loop-node.spread) c.pop.new.self.items c.in-Some.node t in
    let size : length c.in_ok-users.users.items ≡ length c.args.kids.now = c.in_ok-users.ensures.size in
    let is : c.as_slice.result.now ≡ users_at c.in_ok-users.users.items c.in-Some.node = c.as_slice.ensures ∙ get_or_read c.in_ok-users.users.items c.in-Some.node c.index.result.now (omega arith) c.index.ensures [] in
    let made : marks_of c.unmark_all.new.self ≡ after c.args.kids.now c.in_ok-users.users.items c.args.fine.now (marks_of c.loop-node.spread) c.pop.new.self.items c.in-Some.node t =
    c.in_ok-unmark_all.ensures ∙ ap (λ (us : List ℕ). fold unmarked (record { good = c.loop-node.spread.good.items; waiting = c.pop.new.self.items }) us) is in
    subst (λ (m : Marks). Spreading c.args.kids.now c.args.fine.now m) (sym made)
    (spreading_on c.args.kids.now c.in_ok-users.users.items c.args.fine.now (marks_of c.loop-node.spread) c.pop.new.self.items c.in-Some.node t)
