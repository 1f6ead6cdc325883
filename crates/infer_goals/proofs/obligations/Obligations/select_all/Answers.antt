use Rattle.std.proofs.Common.{◌-◌, ◌++◌, List, ℕ, length, sym, ap, ◌∙◌, subst}
use Rattle.std.specs.List.{range_with_len}
use Rattle.infer_goals.specs.Words.{system}
use Rattle.infer_goals.specs.Own.{AreWithin, KeepsOpen}
use Rattle.infer_goals.proofs.Sleeping.{all_numbers}
use Rattle.infer_goals.proofs.Rounds.{all_looked, none_looked}
use Rattle.infer_goals.proofs.obligations.Obligations.select_all.Goals as goal

pub settle_these-requires-clause-within : goal.settle_these-requires-clause-within
settle_these-requires-clause-within c =
    let raw = c.args.sources.now.facts in
    let o = c.args.self.now in
    let all = c.in_ok-push_new.ensures ∙ ap (λ (xs : List ℕ). xs ++ range_with_len 0 (length o.tree.obligations.items - 0)) c.new-numbers.ensures.items in
    subst (AreWithin o.tree raw.limits.goal_depth) (sym all) (all_numbers raw (system c.args.sources.now.sources) c.args.table.now o c.requires.kept)

pub returns-clause-all : goal.returns-clause-all
returns-clause-all c =
    let raw = c.args.sources.now.facts in
    let o = c.args.self.now in
    let p = c.settle_these.new.self in
    let ends = c.in_ok-settle_these.ensures in
    let all = c.in_ok-push_new.ensures ∙ ap (λ (xs : List ℕ). xs ++ range_with_len 0 (length o.tree.obligations.items - 0)) c.new-numbers.ensures.items in
    let keeps = subst (λ xs. KeepsOpen o.tree xs p.tree p.todo.items) all ends.all in
    all_looked raw (system c.args.sources.now.sources) c.args.table.now o c.settle_these.new.table p c.requires.all ends.went keeps ends.there ends.asleep

pub returns-clause-none_left : goal.returns-clause-none_left
returns-clause-none_left c =
    let raw = c.args.sources.now.facts in
    let o = c.args.self.now in
    let p = c.settle_these.new.self in
    let ends = c.in_ok-settle_these.ensures in
    let all = c.in_ok-push_new.ensures ∙ ap (λ (xs : List ℕ). xs ++ range_with_len 0 (length o.tree.obligations.items - 0)) c.new-numbers.ensures.items in
    let keeps = subst (λ xs. KeepsOpen o.tree xs p.tree p.todo.items) all ends.all in
    none_looked raw (system c.args.sources.now.sources) c.args.table.now o c.settle_these.new.table p c.requires.all ends.went keeps ends.settled
