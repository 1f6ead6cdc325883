use Rattle.std.proofs.Common.{◌≡◌, ◌∷◌, [], ◌<◌, length, refl, sym, ap, ◌∙◌, subst, append_assoc, append-nil, arith, rules}
use Rattle.std.proofs.lemmas.List.{nil_from_length}
use Rattle.std.specs.Vec.Iter.{into_iter_items}
use Rattle.infer_goals.specs.Words.{GoalTree}
use Rattle.infer_goals.specs.Own.{FallAsleep}
use Rattle.infer_goals.proofs.Lists.{at_among, yielded_among}
use Rattle.infer_goals.proofs.Sleeping.{asleep_none, asleep_then, all_asleep, all_moved}
use Rattle.infer_goals.proofs.obligations.Obligations.sleep_all.Goals as goal

pub loop-at-init : goal.loop-at-init
loop-at-init c = record {
  items = refl;
  long = search rules;
  tree = refl;
  selected = refl;
  todo = search rules;
  asleep = asleep_none c.args.table.now c.args.self.now.tree c.args.self.now.asleep;
}

pub sleep_one-requires : goal.sleep_one-requires
sleep_one-requires c =
    let at = c.loop-at in
    let t = c.args.self.now.tree in
    let todo : c.replace-numbers.result.items ≡ c.args.self.now.todo.items = ap (λ v. v.items) c.replace-numbers.ensures.value in
    let whole = at.invariant.items ∙ (c.into_iter-at-iterator.ensures.into_iter_gives.0 ∙ todo) in
    let within : c.in-Some.at < length t.obligations.items = at_among (λ i. i < length t.obligations.items) c.args.self.now.todo.items c.in-Some.at c.requires
    (yielded_among at.yielded (into_iter_items at.at-iterator) c.args.self.now.todo.items (into_iter_items c.next.new.self) c.in-Some.at whole c.in-Some.ensures.steps.0) in
    subst (λ (u : GoalTree). c.in-Some.at < length u.obligations.items) (sym at.invariant.tree) within

pub loop-at-preserved : goal.loop-at-preserved
loop-at-preserved c =
    let at = c.loop-at in
    let x = c.in-Some.at in
    let s = c.args.table.now in
    let t = c.args.self.now.tree in
    let steps : into_iter_items at.at-iterator ≡ x ∷ into_iter_items c.next.new.self = c.in-Some.ensures.steps.0 in
    record {
      items = append_assoc at.yielded (x ∷ []) _ ∙ rw (← steps) at.invariant.items;
      long = (let was = at.invariant.long in let gone = c.in-Some.ensures.steps.1 in let short = ap length steps in omega arith);
      tree = at.invariant.tree;
      selected = at.invariant.selected;
      todo = at.invariant.todo;
      asleep = asleep_then s t at.yielded (x ∷ []) c.args.self.now.asleep at.self.asleep c.sleep_one.new.asleep at.invariant.asleep
          (subst (λ (u : GoalTree). FallAsleep s u (x ∷ []) at.self.asleep c.sleep_one.new.asleep) at.invariant.tree c.in_ok-sleep_one.ensures);
    }

pub returns-clause-all : goal.returns-clause-all
returns-clause-all c f since settled =
    let at = c.loop-at in
    let o = c.args.self.now in
    let s = c.args.table.now in
    let none = c.in-None.ensures.steps in
    let empty : into_iter_items at.at-iterator ≡ [] = nil_from_length _ (sym at.invariant.long ∙ none.0) in
    let todo : c.replace-numbers.result.items ≡ o.todo.items = ap (λ v. v.items) c.replace-numbers.ensures.value in
    let all : at.yielded ≡ o.todo.items = sym (append-nil at.yielded) ∙ (rw empty at at.invariant.items ∙ (c.into_iter-at-iterator.ensures.into_iter_gives.0 ∙ todo)) in
    let falls = subst (λ xs. FallAsleep s o.tree xs o.asleep at.self.asleep) all at.invariant.asleep in
    all_moved f s o.tree at.self.tree at.self.asleep at.self.todo.items at.invariant.tree at.invariant.todo (all_asleep f s o.tree o.asleep at.self.asleep o.todo.items falls since settled)
