use Rattle.std.proofs.Common.{◌≡◌, ◌+◌, ◌-◌, ◌≤◌, suc, subst, arith, rules}
use Rattle.infer_goals.specs.Words.{system, asked_goal, IsAnswer}
use Rattle.infer_goals.specs.Own.{Adds, AreListed, AreOfAll, IsListedIfAbout}
use Rattle.infer_goals.proofs.SelfTy.{adds_start, adds_next, listed_adds, yes_adds}
use Rattle.infer_goals.proofs.obligations.Obligations.+add_listed.Goals as goal

pub loop-child-init : goal.loop-child-init
loop-child-init t c =
    adds_start (AreListed (system c.args.sources.now.sources) c.args.sources.now.facts.limits.goal_depth c.args.table.now c.args.hole.now c.args.self.now.tree c.in-Some.below) c.below-first.result.0 c.add_if_about.new.found.items

pub loop-child-preserved : goal.loop-child-preserved
loop-child-preserved t c =
    adds_next (AreListed (system c.args.sources.now.sources) c.args.sources.now.facts.limits.goal_depth c.args.table.now c.args.hole.now c.args.self.now.tree c.in-Some.below)
    c.below-first.result.0 c.loop-child.child c.add_if_about.new.found.items c.loop-child.found.items c.add_listed.new.found.items c.loop-child.auto.child c.loop-child.invariant c.in_ok-add_listed.ensures

pub returns-in-Yes : goal.returns-in-Yes
returns-in-Yes t c =
    let f = system c.args.sources.now.sources in
    let n = c.args.sources.now.facts.limits.goal_depth in
    let tree = c.args.self.now.tree in
    let below = c.below-first.ensures.below in
    let deep : suc c.in-Some.below ≡ c.args.levels = search rules in
    subst (λ d. Adds (AreListed f n c.args.table.now c.args.hole.now tree d c.args.at) c.args.found.now.items c.args.found.now.items) deep
    (yes_adds f n c.args.table.now c.args.hole.now tree c.in-Some.below c.args.at c.obligation.result.now below.0 c.in_ok-answer.answer c.args.found.now.items
    c.obligation.ensures below.1 (subst (λ g. IsAnswer f n (asked_goal g) c.in_ok-answer.answer) c.in_ok-goal.ensures c.in_ok-answer.ensures.answer) c.in-Yes.is)

pub returns : goal.returns
returns t c =
    let f = system c.args.sources.now.sources in
    let n = c.args.sources.now.facts.limits.goal_depth in
    let tree = c.args.self.now.tree in
    let below = c.below-first.ensures.below in
    let first = c.below-first.result.0 in
    let count = c.below-first.result.1 in
    let child = c.loop-child.child in
    let from : first ≤ first + count = omega arith in
    let to : child ≤ first + count = c.loop-child.auto.child-end from in
    let many : child - first ≡ count = (let past = c.loop-child-test.false in omega (arith, to, past)) in
    let deep : suc c.in-Some.below ≡ c.args.levels = search rules in
    subst (λ d. Adds (AreListed f n c.args.table.now c.args.hole.now tree d c.args.at) c.args.found.now.items c.loop-child.found.items) deep
    (listed_adds f n c.args.table.now c.args.hole.now tree c.in-Some.below c.args.at c.obligation.result.now below.0 c.in_ok-answer.answer c.below-first.result c.args.found.now.items c.add_if_about.new.found.items c.loop-child.found.items
    c.obligation.ensures below.1 below.2 (subst (λ g. IsAnswer f n (asked_goal g) c.in_ok-answer.answer) c.in_ok-goal.ensures c.in_ok-answer.ensures.answer) c.in_default-answer.not-Yes
    (subst (λ g. Adds (IsListedIfAbout c.args.hole.now g) c.args.found.now.items c.add_if_about.new.found.items) c.in_ok-goal.ensures c.in_ok-add_if_about.ensures)
    (subst (λ k. Adds (AreOfAll (AreListed f n c.args.table.now c.args.hole.now tree c.in-Some.below) first k) c.add_if_about.new.found.items c.loop-child.found.items) many c.loop-child.invariant))
