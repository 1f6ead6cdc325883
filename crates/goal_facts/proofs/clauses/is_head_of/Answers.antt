use Rattle.std.proofs.Common.{◌≡◌, true≢false, refl, sym}
use Rattle.goal_facts.proofs.Words.{some_at, each_all, some_of_map, some_in_map, none_of}
use Rattle.goal_facts.specs.Words.{asked_of, rule_of}
use Rattle.goal_facts.proofs.clauses.is_head_of.Goals as goal

pub returns-then-is_same : goal.returns-then-is_same
returns-then-is_same c = (
  λ e.
      some_of_map rule_of (λ r. r.head ≡ asked_of c.args.goal.now) c.args.rules.now
      (some_at (λ x. asked_of x.head ≡ asked_of c.args.goal.now) c.args.rules.now c.loop-rule.rule-index c.rule-item.result c.loop-rule-test.true c.rule-item.is (c.is_same.ensures.0 c.if-is_same.true)),
  λ h. refl,
)

pub returns : goal.returns
returns c = (
  λ e. absurd (true≢false (sym e)),
  λ h.
      absurd (none_of (λ x. asked_of x.head ≡ asked_of c.args.goal.now) c.args.rules.now
      (each_all (λ x. asked_of x.head ≡ asked_of c.args.goal.now → ⊥) c.args.rules.now c.loop-rule.rule-index c.loop-rule-test.false c.loop-rule.invariant)
      (some_in_map rule_of (λ r. r.head ≡ asked_of c.args.goal.now) c.args.rules.now h)),
)
