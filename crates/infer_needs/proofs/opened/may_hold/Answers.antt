use Rattle.std.proofs.Common.{sym, ◌∙◌, true≢false, inl, inr}
use Rattle.infer_needs.specs.Words.{system, asked_goal, scope_of}
use Rattle.infer_needs.proofs.Opening.{answered_no, not_no}
use Rattle.infer_needs.proofs.opened.may_hold.Goals as goal
use Rattle.infer_needs.proofs.ReadableGoals.{no_cause}

pub returns-then-not-branch : goal.returns-then-not-branch
returns-then-not-branch c = λ h. absurd (true≢false (sym (c.in_ok-holds_unknown.ensures.1 h) ∙ c.if-not-branch.true))

pub returns-then-branch : goal.returns-then-branch
returns-then-branch c = λ h. inr (c.in_ok-is_readable.ensures.0 c.if-branch.true)

pub returns-in-No : goal.returns-in-No
returns-in-No c =
    let f = system c.args.sources.now.sources in
    let n = c.args.sources.now.facts.limits.goal_depth in
    λ h. inl (answered_no f n (asked_goal c.args.goal.now) c.in_ok-answer_opened.field-0 c.in-No.is c.in_ok-answer_opened.ensures)

pub returns-in-Yes : goal.returns-in-Yes
returns-in-Yes c =
    let f = system c.args.sources.now.sources in
    let n = c.args.sources.now.facts.limits.goal_depth in (
      c.in_ok-holds_unknown.ensures.0 c.if-not-branch.false,
      no_cause (scope_of c.args.sources.now.facts c.args.def) f n (asked_goal c.args.goal.now) (not_no f n (asked_goal c.args.goal.now) c.in_ok-answer_opened.field-0 c.in-Yes.is c.in_ok-answer_opened.ensures)
          (λ h. true≢false (sym (c.in_ok-is_readable.ensures.1 h) ∙ c.if-branch.false)),
    )
