use Rattle.std.proofs.Common.{◌≡◌, ◌∷◌, [], length, map, sym, ap, subst, ◌∙◌, append_assoc, append-nil, arith}
use Rattle.std.proofs.lemmas.List.{map-append, nil_from_length}
use Rattle.std.specs.Vec.Iter.{into_iter_items}
use Rattle.goal_tree.specs.Own.{asked_by, IsAsked}
use Rattle.goal_tree.proofs.Asking.{asked_more}
use Rattle.goal_tree.proofs.tree.GoalTree.ask.Goals as goal

pub loop-goal-preserved : goal.loop-goal-preserved
loop-goal-preserved c =
    let at = c.loop-goal in
    let x = c.in-Some.goal in
    let f = asked_by c.args.node c.args.depth c.args.parent in
    let steps : into_iter_items at.goal-iterator ≡ x ∷ into_iter_items c.next.new.self = c.in-Some.ensures.steps.0 in (
      append_assoc at.yielded (x ∷ []) _ ∙ rw (← steps) at.invariant.0,
      subst (IsAsked c.args.self.now c.push.new.self) (sym (map-append f at.yielded (x ∷ []))) (asked_more c.args.self.now at.self c.push.new.self (map f at.yielded) (f x) at.invariant.1 c.in_ok-push.ensures),
      let was = at.invariant.2 in
          let gone = c.in-Some.ensures.steps.1 in
          let short = ap length steps in
          omega arith,
    )

pub returns : goal.returns
returns c =
    let at = c.loop-goal in
    let none = c.in-None.ensures.steps in
    let empty : into_iter_items at.goal-iterator ≡ [] = nil_from_length _ (sym at.invariant.2 ∙ none.0) in
    let all = sym (append-nil at.yielded) ∙ (rw empty at at.invariant.0 ∙ c.into_iter-goal-iterator.ensures.into_iter_gives.0) in
    subst (λ gs. IsAsked c.args.self.now at.self (map (asked_by c.args.node c.args.depth c.args.parent) gs)) all at.invariant.1
