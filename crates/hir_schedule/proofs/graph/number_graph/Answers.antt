use Rattle.std.proofs.Common.{◌≡◌, length, refl, sym, ap, ◌∙◌, subst}
use Rattle.std.proofs.lemmas.Bool.{MatchBool-at_true, MatchBool-at_false}
use Rattle.hir_schedule.specs.Own.{Visited, visited_by, blank, entered, MeetsAgain}
use Rattle.hir_schedule.proofs.Walking.{Walking}
use Rattle.hir_schedule.proofs.Numbers.{walking_begun, no_tree_again, tree_counted, numbering}
use Rattle.hir_schedule.proofs.Steps.{Top, top_seen, top_inside, walking_step, less_left, empty_from_top}
use Rattle.hir_schedule.proofs.graph.number_graph.Goals as goal

pub loop-node-init : goal.loop-node-init
loop-node-init c =
    let made : visited_by c.in_ok-walk.walk ≡ blank c.len.result = c.in_ok-walk.ensures in
    let size : blank c.len.result ≡ blank (length c.args.kids.now) = ap blank c.len.ensures in
    let same : visited_by c.enter.new.self ≡ entered (blank (length c.args.kids.now)) c.args.root =
    c.in_ok-enter.ensures ∙ ap (λ (m : Visited). entered m c.args.root) (made ∙ size) in
    subst (λ (m : Visited). Walking c.args.kids.now c.args.root m) (sym same) (walking_begun c.args.kids.now c.args.root c.requires.root)

pub step-requires-clause-node : goal.step-requires-clause-node
step-requires-clause-node c =
    top_inside c.args.kids.now c.args.root (visited_by c.loop-node.walk) c.in-Some.node (record { walking = c.loop-node.invariant; read = sym c.in-Some.ensures })

pub returns-then-not-is_new : goal.returns-then-not-is_new
returns-then-not-is_new c =
    let again : MeetsAgain c.args.kids.now (visited_by c.loop-node.walk) c.in-Some.node = MatchBool-at_false _ _ c.if-not-is_new.true c.in_ok-is_new.ensures in
    let top : Top c.args.kids.now c.args.root (visited_by c.loop-node.walk) c.in-Some.node = record { walking = c.loop-node.invariant; read = sym c.in-Some.ensures } in
    no_tree_again c.args.kids.now c.args.root (visited_by c.loop-node.walk) c.loop-node.invariant c.in-Some.node (top_seen c.args.kids.now c.args.root (visited_by c.loop-node.walk) c.in-Some.node top) again

pub loop-node-smaller : goal.loop-node-smaller
loop-node-smaller c =
    let top : Top c.args.kids.now c.args.root (visited_by c.loop-node.walk) c.in-Some.node = record { walking = c.loop-node.invariant; read = sym c.in-Some.ensures } in
    less_left c.args.kids.now c.args.root (visited_by c.loop-node.walk) c.in-Some.node top c.requires.fit (visited_by c.step.new.self) (MatchBool-at_true _ _ c.if-not-is_new.false c.in_ok-is_new.ensures)

pub loop-node-preserved : goal.loop-node-preserved
loop-node-preserved c =
    let top : Top c.args.kids.now c.args.root (visited_by c.loop-node.walk) c.in-Some.node = record { walking = c.loop-node.invariant; read = sym c.in-Some.ensures } in
    walking_step c.args.kids.now c.args.root (visited_by c.loop-node.walk) c.in-Some.node top c.requires.fit (visited_by c.step.new.self) (MatchBool-at_true _ _ c.if-not-is_new.false c.in_ok-is_new.ensures)

pub returns-then-walk-len : goal.returns-then-walk-len
returns-then-walk-len c tree =
    let empty : length c.loop-node.walk.stack.items ≡ 0 = empty_from_top c.loop-node.walk.stack.items (sym c.top.ensures ∙ c.in_default.is) in
    let all : c.loop-node.walk.clock ≡ length c.args.kids.now = tree_counted c.args.kids.now c.args.root (visited_by c.loop-node.walk) c.loop-node.invariant empty tree in
    c.if-walk-len.true (all ∙ sym c.len-2.ensures)

pub returns : goal.returns
returns c =
    let empty : length c.loop-node.walk.stack.items ≡ 0 = empty_from_top c.loop-node.walk.stack.items (sym c.top.ensures ∙ c.in_default.is) in
    let all : c.loop-node.walk.clock ≡ length c.args.kids.now = c.if-walk-len.false ∙ c.len-2.ensures in
    numbering c.args.kids.now c.args.root (visited_by c.loop-node.walk) c.loop-node.invariant empty all
    (record { starts = c.loop-node.walk.starts; ends = c.loop-node.walk.ends; depths = c.loop-node.walk.depths }) refl refl refl
