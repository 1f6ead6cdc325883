use Rattle.std.proofs.Common.{arith}
use Rattle.infer_branches.proofs.Words.{fine_expectation_grown, later}
use Rattle.infer_branches.proofs.BranchWalk.{comes_to_condition, past_condition, comes_to_branch, past_branch, comes_to_else, ends_if}
use Rattle.infer_branches.proofs.InAlternatives.{wanted_less}
use Rattle.infer_branches.proofs.branch.infer_if.Goals as goal

pub infer_expr_coerce-requires-clause-before : goal.infer_expr_coerce-requires-clause-before
infer_expr_coerce-requires-clause-before g c = comes_to_condition _ _ _ _ _ _ c.requires.is _ _ c.requires.before

pub infer_alternative-requires-clause-infers : goal.infer_alternative-requires-clause-infers
infer_alternative-requires-clause-infers g c = later _ _ _ _ _ _ c.in_ok-infer_expr_coerce.ensures.follows.clock c.requires.infers

pub infer_alternative-requires-clause-before : goal.infer_alternative-requires-clause-before
infer_alternative-requires-clause-before g c =
    let at = past_condition _ _ _ _ _ _ c.requires.is _ _ _ c.requires.before (wanted_less c.args.context.now.goals.table _ _ c.adjust_for_branches-wanted.ensures) _ _ _ c.in_ok-common.ensures c.in_ok-infer_expr_coerce.ensures in
    comes_to_branch _ _ _ _ _ _ c.requires.is _ _ _ c.requires.before _ _ at

pub infer_alternative-requires-clause-common : goal.infer_alternative-requires-clause-common
infer_alternative-requires-clause-common g c =
    (past_condition _ _ _ _ _ _ c.requires.is _ _ _ c.requires.before (wanted_less c.args.context.now.goals.table _ _ c.adjust_for_branches-wanted.ensures) _ _ _ c.in_ok-common.ensures c.in_ok-infer_expr_coerce.ensures).fine

pub infer_else-requires-clause-infers : goal.infer_else-requires-clause-infers
infer_else-requires-clause-infers g c =
    later _ _ _ _ _ _ (omega (arith, c.in_ok-infer_expr_coerce.ensures.follows.clock, c.in_ok-infer_alternative.ensures.follows.clock)) c.requires.infers

pub infer_else-requires-clause-before : goal.infer_else-requires-clause-before
infer_else-requires-clause-before g c =
    let at = past_condition _ _ _ _ _ _ c.requires.is _ _ _ c.requires.before (wanted_less c.args.context.now.goals.table _ _ c.adjust_for_branches-wanted.ensures) _ _ _ c.in_ok-common.ensures c.in_ok-infer_expr_coerce.ensures in
    let past = past_branch _ _ _ _ _ _ c.requires.is _ _ _ c.requires.before _ _ _ _ at c.in_ok-infer_alternative.ensures in
    comes_to_else _ _ _ _ _ _ c.requires.is _ _ _ c.requires.before _ _ past

pub complete-requires-clause-expected : goal.complete-requires-clause-expected
complete-requires-clause-expected g c =
    let at = past_condition _ _ _ _ _ _ c.requires.is _ _ _ c.requires.before (wanted_less c.args.context.now.goals.table _ _ c.adjust_for_branches-wanted.ensures) _ _ _ c.in_ok-common.ensures c.in_ok-infer_expr_coerce.ensures in
    let past = past_branch _ _ _ _ _ _ c.requires.is _ _ _ c.requires.before _ _ _ _ at c.in_ok-infer_alternative.ensures in
    fine_expectation_grown _ _ _ _ c.in_ok-infer_else.ensures.follows.grew past.expected

pub returns : goal.returns
returns g c =
    let at = past_condition _ _ _ _ _ _ c.requires.is _ _ _ c.requires.before (wanted_less c.args.context.now.goals.table _ _ c.adjust_for_branches-wanted.ensures) _ _ _ c.in_ok-common.ensures c.in_ok-infer_expr_coerce.ensures in
    let past = past_branch _ _ _ _ _ _ c.requires.is _ _ _ c.requires.before _ _ _ _ at c.in_ok-infer_alternative.ensures in
    ends_if _ _ _ _ _ _ c.requires.is _ _ _ _ _ _ _ _ _ c.requires.before (wanted_less c.args.context.now.goals.table _ _ c.adjust_for_branches-wanted.ensures) past c.in_ok-infer_else.ensures c.in_ok-ty.ensures
