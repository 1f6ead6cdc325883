use Rattle.std.proofs.Common.{true≢false, sym, refl, subst, MatchOption}
use Rattle.goal_search.specs.Words.{Rule as SourceRule, args_of, IsApart, CannotGive, term_of, HasHeads, log_of, fill_of, IsCommon}
use Rattle.goal_search.proofs.Words.{each_at, each_all, each_in_map, each_of_map}
use Rattle.goal_search.specs.Own.{rule_of, RuleHasHeads}
use Rattle.goal_search.proofs.Heads.{args_heads}
use Rattle.goal_search.proofs.Small.{can_give}
use Rattle.goal_search.proofs.first.none_can_give.Goals as goal

pub find_common-requires-clause-part_heads : goal.find_common-requires-clause-part_heads
find_common-requires-clause-part_heads c =
    let heads = each_at (λ r. RuleHasHeads (rule_of r)) c.args.rules.now c.loop-rule.rule-index c.rule-item.result c.loop-rule-test.true c.rule-item.is (each_in_map rule_of RuleHasHeads c.args.rules.now c.requires.rules) in
    subst HasHeads (sym c.args_of.ensures) (args_heads (term_of c.rule-item.result.head.parts) heads.head)

pub returns-in-Some : goal.returns-in-Some
returns-in-Some c =
    let w = term_of c.args.args.now in
    let none : SourceRule → Type 0 = CannotGive c.args.alias w in
    let part = args_of (term_of c.rule-item.result.head.parts) in
    let found = subst (λ o. MatchOption o (IsApart (term_of c.args_of.result.now) w) (λ fills. IsCommon (term_of c.args_of.result.now) w (fill_of (log_of fills.items)))) c.in-Some.is c.in_ok-find_common.ensures in
    let common = subst (λ t. IsCommon t w (fill_of (log_of c.in-Some.field-0.items))) c.args_of.ensures found in (
      λ e. absurd (true≢false (sym e)),
      λ e.
          let here = each_at (λ r. none (rule_of r)) c.args.rules.now c.loop-rule.rule-index c.rule-item.result c.loop-rule-test.true c.rule-item.is (each_in_map rule_of none c.args.rules.now e) in
          absurd (can_give c.args.alias w (rule_of c.rule-item.result) (fill_of (log_of c.in-Some.field-0.items)) (c.is_same_kind.ensures.0 c.if-not-is_same_kind.false) common here),
    )

pub returns : goal.returns
returns c =
    let none : SourceRule → Type 0 = CannotGive c.args.alias (term_of c.args.args.now) in (
      λ e. each_of_map rule_of none c.args.rules.now (each_all (λ r. none (rule_of r)) c.args.rules.now c.loop-rule.rule-index c.loop-rule-test.false c.loop-rule.invariant),
      λ e. refl,
    )
