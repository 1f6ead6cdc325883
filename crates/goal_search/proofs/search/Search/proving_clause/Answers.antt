use Rattle.std.proofs.Common.{◌≡◌, ◌<◌, sym, ◌∙◌, subst, arith, true≢false, List, length, get_or, Some, slice_get}
use Rattle.goal_search.specs.Words.{answers, known_below, StatesGoal, term_of}
use Rattle.goal_search.proofs.Words.{each_at, each_all, each_more, each_in_map, none_of, some_in_map}
use Rattle.goal_search.specs.Own.{kind_of, rule_of, rules_of, system, Rule, RuleHasHeads}
use Rattle.goal_search.proofs.Only.{mapped_at}
use Rattle.goal_search.proofs.search.Search.proving_clause.Goals as goal

pub states_goal-requires-clause-rule : goal.states_goal-requires-clause-rule
states_goal-requires-clause-rule c =
    each_at (λ r. RuleHasHeads (rule_of r)) c.deref-clause-items.result.now c.loop-number.number c.clause-item.result (omega arith) c.clause-item.is
    (rw (c.deref-clause-items.ensures.value, c.sources-sources.ensures.is) (each_in_map rule_of RuleHasHeads c.args.self.now.clauses.items c.sources-sources.ensures.heads.clauses))

pub returns-then-branch-clause-answer : goal.returns-then-branch-clause-answer
returns-then-branch-clause-answer c =
    let f = system c.args.self.now in let n = c.args.depth in let i = c.loop-number.number in let x = c.clause-item.result in
    let same = rw c.sources-sources.ensures.is at c.deref-clause-items.ensures.value in
    let at = mapped_at rule_of c.deref-clause-items.result.now i x (omega arith) c.clause-item.is in
    let proves = rw c.loop-number.invariant.same at c.in_ok-states_goal.ensures.answer in
    (rule_of x, subst (λ (rs : List Rule). slice_get (rules_of rs) i ≡ Some (rule_of x)) same at, proves.0 c.if-branch.true)

pub loop-number-preserved : goal.loop-number-preserved
loop-number-preserved c =
    let f = system c.args.self.now in let n = c.args.depth in let i = c.loop-number.number in let x = c.clause-item.result in
    let P = StatesGoal (answers f n).Alias (known_below f n) (kind_of c.args.kind) (term_of c.args.target.now) in
    let same = rw c.sources-sources.ensures.is at c.deref-clause-items.ensures.value in
    let proves = rw c.loop-number.invariant.same at c.in_ok-states_goal.ensures.answer in
    record {
      same = c.states_goal.ensures.same ∙ c.loop-number.invariant.same;
      so_far =
          each_more (λ r. P (rule_of r) → ⊥) c.args.self.now.clauses.items i x (subst (λ (rs : List Rule). i < length rs) same c.loop-number-test.true) (subst (λ (rs : List Rule). x ≡ get_or rs i x) same c.clause-item.is)
          c.loop-number.invariant.so_far (λ h. true≢false (sym (proves.1 h) ∙ c.if-branch.false));
    }

pub returns-clause-answer : goal.returns-clause-answer
returns-clause-answer c =
    let f = system c.args.self.now in let n = c.args.depth in
    let P = StatesGoal (answers f n).Alias (known_below f n) (kind_of c.args.kind) (term_of c.args.target.now) in
    let past = rw (c.deref-clause-items.ensures.value, c.sources-sources.ensures.is) at c.loop-number-test.false in
    λ some.
    none_of (λ r. P (rule_of r)) c.args.self.now.clauses.items (each_all (λ r. P (rule_of r) → ⊥) c.args.self.now.clauses.items c.loop-number.number past c.loop-number.invariant.so_far)
    (some_in_map rule_of P c.args.self.now.clauses.items some)
