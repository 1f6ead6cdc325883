use Rattle.std.proofs.Common.{◌≡◌, true, sym, ap, ◌∙◌, subst, true≢false}
use Rattle.infer_goals.specs.Words.{system}
use Rattle.infer_goals.specs.Own.{AreWithin, KeepsOpen, AreUsedUp, Went}
use Rattle.infer_goals.proofs.Settling.{all_within}
use Rattle.infer_goals.proofs.Rounds.{kept_same, round_more, round_used, round_last}
use Rattle.infer_goals.proofs.obligations.Obligations.select_round.Goals as goal

pub settle_these-requires-clause-within : goal.settle_these-requires-clause-within
settle_these-requires-clause-within c =
    let raw = c.args.sources.now.facts in
    let o = c.args.self.now in
    let todo : o.todo.items ≡ c.replace-numbers.result.items = sym (ap (λ v. v.items) c.replace-numbers.ensures.value) in
    subst (AreWithin o.tree raw.limits.goal_depth) todo (all_within raw (system c.args.sources.now.sources) c.args.table.now o o.todo.items c.requires.kept c.requires.since.within)

pub returns-then-self-before-clause-kept : goal.returns-then-self-before-clause-kept
returns-then-self-before-clause-kept c =
    kept_same c.args.sources.now.facts (system c.args.sources.now.sources) c.settle_these.new.table c.settle_these.new.self c.wake.new.self c.wake.ensures.tree c.wake.ensures.selected c.in_ok-settle_these.ensures.kept

pub returns-then-self-before-clause-ends : goal.returns-then-self-before-clause-ends
returns-then-self-before-clause-ends c =
    let o = c.args.self.now in
    let p = c.settle_these.new.self in
    let ends = c.in_ok-settle_these.ensures in
    let went : Went c.args.sources.now.facts (system c.args.sources.now.sources) true c.args.table.now o c.settle_these.new.table p = record { states = ends.went.states; steps = ends.went.steps; selected = ends.went.selected } in
    let keeps = subst (λ xs. KeepsOpen o.tree xs p.tree p.todo.items) (ap (λ v. v.items) c.replace-numbers.ensures.value) ends.all in
    round_more c.args.sources.now.facts (system c.args.sources.now.sources) c.args.table.now o c.settle_these.new.table p c.requires.kept.tree c.requires.since went ends.there keeps ends.asleep
    c.wake.new.self c.if-self-before.true c.wake.ensures.selected c.in_ok-wake.ensures.all

pub returns-then-are_used_up-clause-ends : goal.returns-then-are_used_up-clause-ends
returns-then-are_used_up-clause-ends c =
    let o = c.args.self.now in
    let p = c.settle_these.new.self in
    let ends = c.in_ok-settle_these.ensures in
    let went : Went c.args.sources.now.facts (system c.args.sources.now.sources) true c.args.table.now o c.settle_these.new.table p = record { states = ends.went.states; steps = ends.went.steps; selected = ends.went.selected } in
    let keeps = subst (λ xs. KeepsOpen o.tree xs p.tree p.todo.items) (ap (λ v. v.items) c.replace-numbers.ensures.value) ends.all in
    round_used c.args.sources.now.facts (system c.args.sources.now.sources) c.args.table.now o c.settle_these.new.table p c.requires.kept.tree c.requires.since went ends.there keeps ends.asleep
    c.if-self-before.false (c.are_used_up.ensures.used.0 c.if-are_used_up.true)

pub returns-clause-kept : goal.returns-clause-kept
returns-clause-kept c =
    kept_same c.args.sources.now.facts (system c.args.sources.now.sources) c.settle_these.new.table c.settle_these.new.self c.sleep_all.new.self c.sleep_all.ensures.tree c.sleep_all.ensures.selected c.in_ok-settle_these.ensures.kept

pub returns-clause-ends : goal.returns-clause-ends
returns-clause-ends c =
    let raw = c.args.sources.now.facts in
    let f = system c.args.sources.now.sources in
    let o = c.args.self.now in
    let p = c.settle_these.new.self in
    let ends = c.in_ok-settle_these.ensures in
    let went : Went c.args.sources.now.facts (system c.args.sources.now.sources) true c.args.table.now o c.settle_these.new.table p = record { states = ends.went.states; steps = ends.went.steps; selected = ends.went.selected } in
    let keeps = subst (λ xs. KeepsOpen o.tree xs p.tree p.todo.items) (ap (λ v. v.items) c.replace-numbers.ensures.value) ends.all in
    let unused : AreUsedUp raw true p → ⊥ = λ used. true≢false (sym (c.are_used_up.ensures.used.1 used) ∙ c.if-are_used_up.false) in
    round_last raw f c.args.table.now o c.settle_these.new.table p c.requires.kept.tree c.requires.since went ends.there keeps ends.asleep
    c.if-self-before.false c.sleep_all.new.self unused ends.settled (c.in_ok-sleep_all.ensures.all f) c.in_ok-sleep_all.ensures.todo
