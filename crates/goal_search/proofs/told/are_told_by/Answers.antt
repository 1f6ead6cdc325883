use Rattle.std.proofs.Common.{true≢false, sym, ◌∙◌, refl}
use Rattle.goal_search.specs.Words.{IsToldBy, Asked as AskedGoal, term_of}
use Rattle.goal_search.proofs.Words.{each_at, each_all, each_in_map, each_of_map}
use Rattle.goal_search.specs.Own.{asked_of}
use Rattle.goal_search.proofs.told.are_told_by.Goals as goal

pub returns-then-not-is_told_by : goal.returns-then-not-is_told_by
returns-then-not-is_told_by c =
    let told : AskedGoal → Type 0 = λ q. IsToldBy (term_of c.args.by.now) q.parts in (
      λ e. absurd (true≢false (sym e)),
      λ e.
          let here = each_at (λ g. told (asked_of g)) c.args.goals.now c.loop-goal.goal-index c.goal-item.result c.loop-goal-test.true c.goal-item.is (each_in_map asked_of told c.args.goals.now e) in
          absurd (true≢false (sym (c.is_told_by.ensures.1 here) ∙ c.if-not-is_told_by.true)),
    )

pub returns : goal.returns
returns c =
    let told : AskedGoal → Type 0 = λ q. IsToldBy (term_of c.args.by.now) q.parts in (
      λ e. each_of_map asked_of told c.args.goals.now (each_all (λ g. told (asked_of g)) c.args.goals.now c.loop-goal.goal-index c.loop-goal-test.false c.loop-goal.invariant),
      λ e. refl,
    )
