use Rattle.std.proofs.Common.{◌≡◌, ◌∷◌, [], ◌++◌, length, sym, ap, subst, ◌∙◌, append_assoc, append-nil, arith, map}
use Rattle.std.proofs.lemmas.List.{map-append, nil_from_length}
use Rattle.std.specs.Vec.Iter.{into_iter_items}
use Rattle.goal_facts.specs.Words.{Each, asked_of, asked_list, rule_of, rules_of, RuleHasHeads}
use Rattle.goal_facts.specs.Own.{fact}
use Rattle.goal_facts.proofs.Systems.{each_append, facts_heads}
use Rattle.goal_facts.proofs.sources.push_facts.Goals as goal

pub loop-head-preserved : goal.loop-head-preserved
loop-head-preserved c =
    let at = c.loop-head in
    let x = c.in-Some.head in
    let bare : rule_of (record { head = x; preds = c.new.result }) ≡ fact (asked_of x) = λ i. record { head = asked_of x; preds = asked_list (c.new.ensures.items i) } in
    let steps : into_iter_items at.head-iterator ≡ x ∷ into_iter_items c.next.new.self = c.in-Some.ensures.steps.0 in (
      append_assoc at.yielded (x ∷ []) _ ∙ rw (← steps) at.invariant.0,
      ap rules_of c.in_ok-push.ensures.items
          ∙ (map-append rule_of at.rules.items (record { head = x; preds = c.new.result } ∷ [])
          ∙ (ap (λ rs. rs ++ rule_of (record { head = x; preds = c.new.result }) ∷ []) at.invariant.1
          ∙ (append_assoc (rules_of c.args.rules.now.items) (map fact (asked_list at.yielded)) (rule_of (record { head = x; preds = c.new.result }) ∷ [])
          ∙ ap (λ rs. rules_of c.args.rules.now.items ++ rs)
          (ap (λ r. map fact (asked_list at.yielded) ++ r ∷ []) bare ∙ sym (ap (map fact) (map-append asked_of at.yielded (x ∷ [])) ∙ map-append fact (asked_list at.yielded) (asked_of x ∷ [])))))),
      let was = at.invariant.2 in
          let gone = c.in-Some.ensures.steps.1 in
          let short = ap length steps in
          omega arith,
    )

pub returns-clause-is : goal.returns-clause-is
returns-clause-is c =
    let at = c.loop-head in
    let none = c.in-None.ensures.steps in
    let empty : into_iter_items at.head-iterator ≡ [] = nil_from_length _ (sym at.invariant.2 ∙ none.0) in
    let all = sym (append-nil at.yielded) ∙ (rw empty at at.invariant.0 ∙ c.into_iter-head-iterator.ensures.into_iter_gives.0) in
    subst (λ hs. rules_of at.rules.items ≡ rules_of c.args.rules.now.items ++ map fact (asked_list hs)) all at.invariant.1

pub returns-clause-heads : goal.returns-clause-heads
returns-clause-heads c =
    let at = c.loop-head in
    let none = c.in-None.ensures.steps in
    let empty : into_iter_items at.head-iterator ≡ [] = nil_from_length _ (sym at.invariant.2 ∙ none.0) in
    let all = sym (append-nil at.yielded) ∙ (rw empty at at.invariant.0 ∙ c.into_iter-head-iterator.ensures.into_iter_gives.0) in
    let are = subst (λ hs. rules_of at.rules.items ≡ rules_of c.args.rules.now.items ++ map fact (asked_list hs)) all at.invariant.1 in
    subst (Each RuleHasHeads) (sym are) (each_append RuleHasHeads (rules_of c.args.rules.now.items) (map fact (asked_list c.args.goals.items)) c.requires.rules (facts_heads (asked_list c.args.goals.items) c.requires.goals))
