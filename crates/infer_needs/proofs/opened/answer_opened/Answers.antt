use Rattle.std.proofs.Common.{◌≡◌, ◌+◌, suc, sym, ap, ◌∙◌, subst, arith, IfOk}
use Rattle.infer_needs.specs.Words.{term_of, HasHeads, kind_of, system, asked_goal, IsAnswer, opened_goal}
use Rattle.infer_needs.proofs.Words.{depth_is_small, answer_is}
use Rattle.infer_needs.proofs.Opening.{heads_kept}
use Rattle.infer_needs.proofs.opened.answer_opened.Goals as goal

pub overflow_add-depth : goal.overflow_add-depth
overflow_add-depth c = let h = depth_is_small c.raw.result.now c.raw.ensures.lawful in omega (arith, h)

pub evaluate-requires : goal.evaluate-requires
evaluate-requires c = record {
  goal = record {
    heads = subst HasHeads (sym c.in_ok-parts.ensures.term) (heads_kept 0 (term_of c.in_ok-asks.asks.parts) c.in_ok-asks.ensures.heads);
    fills = λ k o. record { read = tt; heads = tt };
  };
}

pub returns : goal.returns
returns c =
    let deep = c.args.sources.now.facts.limits.goal_depth in
    let asks = opened_goal (asked_goal c.args.goal.now) in
    let facts = c.raw.ensures.value ∙ c.facts.ensures in
    let same : c.raw.result.now.limits.goal_depth ≡ deep = λ i. (facts i).limits.goal_depth in
    let next : c.raw.result.now.limits.goal_depth + 1 ≡ suc deep = ap (λ n. n + 1) same ∙ omega arith in
    let is : record { kind = kind_of c.in_ok-asks.asks.kind; parts = term_of c.in_ok-parts.parts } ≡ asks =
    (λ i. record { kind = kind_of c.in_ok-asks.asks.kind; parts = c.in_ok-parts.ensures.term i }) ∙ ap opened_goal c.in_ok-asks.ensures.is in
    subst (λ s. IfOk c.evaluate.result (IsAnswer (system s) deep asks)) c.search-search.ensures
    (answer_is (system c.search-search.result) deep (c.raw.result.now.limits.goal_depth + 1) _ asks c.evaluate.result next is c.evaluate.ensures.answer)
