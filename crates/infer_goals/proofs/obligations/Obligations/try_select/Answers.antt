use Rattle.std.proofs.Common.{sym, ◌∙◌, arith, true≢false}
use Rattle.infer_goals.specs.Words.{system}
use Rattle.infer_goals.specs.Own.{AreUsedUp}
use Rattle.infer_goals.proofs.Later.{later_long}
use Rattle.infer_goals.proofs.Trying.{taken_by, taken_kept, taken_went, taken_lower}
use Rattle.infer_goals.proofs.obligations.Obligations.try_select.Goals as goal

pub push_new-requires : goal.push_new-requires
push_new-requires c =
    let long = later_long c.args.self.now.tree c.select.new.self c.in_ok-select.ensures.selected.later in
    let first = c.len-first.ensures in
    omega (arith, long, first)

pub returns-clause-kept : goal.returns-clause-kept
returns-clause-kept c =
    let raw = c.args.sources.now.facts in
    let f = system c.args.sources.now.sources in
    let unused : AreUsedUp raw c.args.bounded c.args.self.now → ⊥ = λ used. true≢false (sym (c.are_used_up.ensures.used.1 used) ∙ c.if-are_used_up.false) in
    taken_kept raw f c.args.bounded c.args.table.now c.args.self.now c.args.at c.select_goal.new.table c.select.new.self c.count.new.self
    (taken_by raw f c.args.bounded c.args.table.now c.args.self.now c.args.at c.select_goal.new.table c.select.new.self c.count.new.self c.obligation-obligation.result.now c.in_ok-source.field-0 c.in-Some.field-0
    c.requires.kept unused c.obligation-obligation.ensures c.requires.is_open c.in_ok-source.ensures.selected c.in-Some.is c.in_ok-select.ensures.selected c.in_ok-select.ensures.tree c.count.ensures.tree c.count.ensures.selected)

pub returns-clause-went : goal.returns-clause-went
returns-clause-went c =
    let raw = c.args.sources.now.facts in
    let f = system c.args.sources.now.sources in
    let unused : AreUsedUp raw c.args.bounded c.args.self.now → ⊥ = λ used. true≢false (sym (c.are_used_up.ensures.used.1 used) ∙ c.if-are_used_up.false) in
    taken_went raw f c.args.bounded c.args.table.now c.args.self.now c.args.at c.select_goal.new.table c.select.new.self c.count.new.self
    (taken_by raw f c.args.bounded c.args.table.now c.args.self.now c.args.at c.select_goal.new.table c.select.new.self c.count.new.self c.obligation-obligation.result.now c.in_ok-source.field-0 c.in-Some.field-0
    c.requires.kept unused c.obligation-obligation.ensures c.requires.is_open c.in_ok-source.ensures.selected c.in-Some.is c.in_ok-select.ensures.selected c.in_ok-select.ensures.tree c.count.ensures.tree c.count.ensures.selected)

pub returns-clause-lower : goal.returns-clause-lower
returns-clause-lower c =
    let raw = c.args.sources.now.facts in
    let f = system c.args.sources.now.sources in
    let unused : AreUsedUp raw c.args.bounded c.args.self.now → ⊥ = λ used. true≢false (sym (c.are_used_up.ensures.used.1 used) ∙ c.if-are_used_up.false) in
    taken_lower raw f c.args.bounded c.args.table.now c.args.self.now c.args.at c.select_goal.new.table c.select.new.self c.count.new.self
    (taken_by raw f c.args.bounded c.args.table.now c.args.self.now c.args.at c.select_goal.new.table c.select.new.self c.count.new.self c.obligation-obligation.result.now c.in_ok-source.field-0 c.in-Some.field-0
    c.requires.kept unused c.obligation-obligation.ensures c.requires.is_open c.in_ok-source.ensures.selected c.in-Some.is c.in_ok-select.ensures.selected c.in_ok-select.ensures.tree c.count.ensures.tree c.count.ensures.selected)
