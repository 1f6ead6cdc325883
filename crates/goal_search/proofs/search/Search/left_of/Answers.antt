use Rattle.std.proofs.Common.{◌≡◌, ◌⊎◌, inl, inr, ℕ, sym, ◌∙◌, arith, true≢false}
use Rattle.std.proofs.lemmas.List.{length-map}
use Rattle.goal_search.specs.Words.{RuleIsRefuted, answers, known_below, term_of}
use Rattle.goal_search.proofs.Words.{each_at, each_in_map}
use Rattle.goal_search.specs.Own.{kind_of, rule_of, rules_of, system, Left, RuleHasHeads}
use Rattle.goal_search.specs.declared.choose.Left.TheVariants as left
use Rattle.goal_search.proofs.Only.{mapped_at, left_end, left_out, left_this, left_two}
use Rattle.goal_search.proofs.search.Search.left_of.Goals as goal
use Rattle.goal_search.proofs.search.Search.left_of.Goals.{then-not-branch+in-Nothing, else-not-branch}

not_nothing : (o : Left) → ((i : ℕ) × (o ≡ left.One i)) ⊎ (o ≡ left.Several) → o ≡ left.Nothing → ⊥
not_nothing o (inl x) e = one_or x.0 (sym x.1 ∙ e)
  where
    one_or : (i : ℕ) → left.One i ≡ left.Nothing → ⊥
    one_or i e = cc
not_nothing o (inr x) e = several_or (sym x ∙ e)
  where
    several_or : left.Several ≡ left.Nothing → ⊥
    several_or e = cc

pub is_out-requires-clause-rule : goal.is_out-requires-clause-rule
is_out-requires-clause-rule c =
    each_at (λ r. RuleHasHeads (rule_of r)) c.args.rules.now c.loop-number.number c.index-rules-number.result (omega arith) c.index-rules-number.is (each_in_map rule_of RuleHasHeads c.args.rules.now c.requires.rules)

pub returns-in-One : goal.returns-in-One
returns-in-One c =
    let f = system c.args.self.now in let n = c.args.depth in let i = c.loop-number.number in let x = c.index-rules-number.result in
    let Out = RuleIsRefuted (answers f n).Alias (known_below f n) (kind_of c.args.kind) (term_of c.args.target.now) in
    let at = mapped_at rule_of c.args.rules.now i x (omega arith) c.index-rules-number.is in
    let out = rw c.loop-number.invariant.same at c.in_ok-is_out.ensures.answer in
    record {
      same = c.is_out.ensures.same ∙ c.loop-number.invariant.same;
      answer = left_two Out (rules_of c.args.rules.now) i (rule_of x) at c.loop-number.left (not_nothing c.loop-number.left c.in-One.is) (λ o. true≢false (sym (out.1 o) ∙ c.if-not-branch.true)) c.loop-number.invariant.so_far;
    }

pub loop-number-preserved : goal.loop-number-preserved
loop-number-preserved c =
    let f = system c.args.self.now in let n = c.args.depth in let i = c.loop-number.number in let x = c.index-rules-number.result in
    let Out = RuleIsRefuted (answers f n).Alias (known_below f n) (kind_of c.args.kind) (term_of c.args.target.now) in
    let rs = rules_of c.args.rules.now in
    let at = mapped_at rule_of c.args.rules.now i x (omega arith) c.index-rules-number.is in
    let out = rw c.loop-number.invariant.same at c.in_ok-is_out.ensures.answer in
    record {
      same = c.is_out.ensures.same ∙ c.loop-number.invariant.same;
      so_far = elim c.if-not-branch.branch [
        | then-not-branch+in-Nothing w ↦ rw w.left-is (left_this Out rs i (rule_of x) at (λ o. true≢false (sym (out.1 o) ∙ w.if-not-branch.true)) (rw w.in-Nothing.is at c.loop-number.invariant.so_far))
        | else-not-branch w ↦ rw w.left-is (left_out Out rs i (rule_of x) at c.loop-number.left (out.0 w.if-not-branch.false) c.loop-number.invariant.so_far)
      ];
    }

pub returns-clause-answer : goal.returns-clause-answer
returns-clause-answer c =
    let f = system c.args.self.now in let n = c.args.depth in
    let Out = RuleIsRefuted (answers f n).Alias (known_below f n) (kind_of c.args.kind) (term_of c.args.target.now) in
    left_end Out (rules_of c.args.rules.now) c.loop-number.number c.loop-number.left (omega (arith, length-map c.args.rules.now rule_of)) c.loop-number.invariant.so_far
