use Rattle.std.proofs.Common.{sym, subst, Some}
use Rattle.std.proofs.lemmas.List.{get_or_default}
use Rattle.infer_branches.specs.Words.{RawArm, given_of, schedule_of, BeforePat, PatDone}
use Rattle.infer_branches.proofs.Words.{later}
use Rattle.infer_branches.proofs.PatternWalk.{arm_at, comes_to_scrutinee, begins_patterns, comes_to_pattern, goes_past_pattern, comes_to_arms, ends_match}
use Rattle.infer_branches.proofs.InAlternatives.{arms_wanted}
use Rattle.infer_branches.proofs.branch.infer_match.Goals as goal

pub infer_expr_coerce-requires-clause-before : goal.infer_expr_coerce-requires-clause-before
infer_expr_coerce-requires-clause-before g c = comes_to_scrutinee _ _ _ _ _ _ _ c.requires.before c.requires.is

pub loop-i-init : goal.loop-i-init
loop-i-init g c = begins_patterns _ _ _ _ _ _ _ _ _ c.requires.before c.requires.is c.in_ok-input_ty.ensures

pub infer_top_pat-requires : goal.infer_top_pat-requires
infer_top_pat-requires g c =
    let y : RawArm = arm_at c.args.arms.now c.loop-i.i in
    subst (λ k. BeforePat (given_of c.args.given.now) (schedule_of c.args.given.now) y.pat (Some k) c.loop-i.context) (sym c.in_ok-ty.ensures)
    (comes_to_pattern _ _ _ _ _ _ _ _ _ c.loop-i.invariant y (get_or_default _ _ _ _ c.loop-i-test.true) c.loop-i-test.true _ c.requires.before)

pub loop-i-preserved : goal.loop-i-preserved
loop-i-preserved g c =
    let y : RawArm = arm_at c.args.arms.now c.loop-i.i in
    goes_past_pattern _ _ _ _ _ _ _ _ _ c.loop-i.invariant y (get_or_default _ _ _ _ c.loop-i-test.true) c.loop-i-test.true _
    (subst (λ k. PatDone (given_of c.args.given.now) (schedule_of c.args.given.now) y.pat (Some k) c.loop-i.context c.infer_top_pat.new.context) c.in_ok-ty.ensures c.in_ok-infer_top_pat.ensures)

pub infer_arms-requires-clause-infers : goal.infer_arms-requires-clause-infers
infer_arms-requires-clause-infers g c = later _ _ _ _ _ _ c.loop-i.invariant.walk.follows.clock c.requires.infers

pub infer_arms-requires-clause-before : goal.infer_arms-requires-clause-before
infer_arms-requires-clause-before g c =
    comes_to_arms _ _ _ _ _ _ _ _ _ c.loop-i.invariant c.loop-i-test.false _ _ c.requires.is (arms_wanted c.loop-i.context.goals.table _ _ _ c.adjust_for_branches.ensures c.unless_unit-wanted.ensures) c.requires.before

pub returns : goal.returns
returns g c =
    ends_match _ _ _ _ _ _ _ _ _ c.loop-i.invariant c.loop-i-test.false _ _ c.requires.is (arms_wanted c.loop-i.context.goals.table _ _ _ c.adjust_for_branches.ensures c.unless_unit-wanted.ensures) _ _ c.in_ok-ty-2.ensures
