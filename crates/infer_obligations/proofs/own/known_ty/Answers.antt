use Rattle.std.proofs.Common.{◌∙◌, sym, subst, true≢false}
use Rattle.infer_obligations.specs.Words.{scope_of, resolved_type, IsTypeRead, system}
use Rattle.infer_obligations.proofs.Known.{known_read, known_not, known_none}
use Rattle.infer_obligations.proofs.own.known_ty.Goals as goal

pub returns-in_default-clause-known : goal.returns-in_default-clause-known
returns-in_default-clause-known c =
    let s = c.args.goals.now.sources in
    let none = subst (IsTypeRead (system s.sources) s.facts.limits.goal_depth (resolved_type c.args.goals.now.table c.args.ty.now)) c.in_default.is c.in_ok-read.ensures.read in
    known_none (scope_of c.args.facts.now c.args.def) (system s.sources) s.facts.limits.goal_depth c.args.goals.now.table c.requires c.args.ty.now none

pub returns-then-branch-clause-known : goal.returns-then-branch-clause-known
returns-then-branch-clause-known c =
    let s = c.args.goals.now.sources in
    let read = subst (IsTypeRead (system s.sources) s.facts.limits.goal_depth (resolved_type c.args.goals.now.table c.args.ty.now)) c.in-Some.is c.in_ok-read.ensures.read in
    known_read (scope_of c.args.facts.now c.args.def) (system s.sources) s.facts.limits.goal_depth c.args.goals.now.table c.requires c.args.ty.now c.in-Some.read read (c.in_ok-is_in_hand.ensures.0 c.if-branch.true)

pub returns-else-branch-clause-known : goal.returns-else-branch-clause-known
returns-else-branch-clause-known c =
    let s = c.args.goals.now.sources in
    let read = subst (IsTypeRead (system s.sources) s.facts.limits.goal_depth (resolved_type c.args.goals.now.table c.args.ty.now)) c.in-Some.is c.in_ok-read.ensures.read in
    known_not (scope_of c.args.facts.now c.args.def) (system s.sources) s.facts.limits.goal_depth c.args.goals.now.table c.requires c.args.ty.now c.in-Some.read read
    (λ hand. true≢false (sym (c.in_ok-is_in_hand.ensures.1 hand) ∙ c.if-branch.false))
