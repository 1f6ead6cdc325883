use Rattle.std.proofs.Common.{arith, ◌+◌, ◌≡◌, ◌∙◌, ap, sym, subst}
use Rattle.hir_types.specs.declared.ids.ExprOrPatId.TheVariants as node
use Rattle.hir_raw.specs.Order.{inner}
use Rattle.infer_table.specs.Table.{HolesAreOf}
use Rattle.goal_search.specs.Sources.{system}
use Rattle.infer_goals.specs.declared.table.GoalTable.{GoalTable}
use Rattle.infer_goals.specs.Obligations.{AreKept, HasAllOpen}
use Rattle.infer_result.specs.Needs.{needed_goals}
use Rattle.infer_ctx.specs.Asked.{IsTold}
use Rattle.infer_ctx.specs.Context.{given_of, schedule_of, expected_type, entered, with_expr_ty, with_goal_table}
use Rattle.infer_ctx.specs.declared.context.InferenceContext.{InferenceContext}
use Rattle.infer_ctx.specs.Steps.{Within, OwnDone, KindDone}
use Rattle.infer_ctx.proofs.Expressions.{comes_within, told_entered}
use Rattle.infer_obligations.specs.Registering.{asked_for, Registers}
use Rattle.infer_expr.proofs.Inner.{own_expr, own_registered}
use Rattle.infer_expr.proofs.expr.+infer.Goals as goal
use Rattle.infer_result.specs.Columns as column

pub infer_expr_of_kind-requires-clause-infers : goal.infer_expr_of_kind-requires-clause-infers
infer_expr_of_kind-requires-clause-infers t c =
    let after : c.enter.new.self.clock ≡ c.args.context.now.clock + 1 = ap (λ k. k.clock) c.enter.ensures in
    record {
      may = λ d e x k b. (omega (arith, c.decreases, after, k, c.requires.here, c.requires.ready.room, c.requires.ready.law.schedule.reached (inner (node.ExprId c.args.tgt_expr)) c.requires.within), b);
      does = λ d e x r n p. p.2;
    }

pub infer_expr_of_kind-requires-clause-before : goal.infer_expr_of_kind-requires-clause-before
infer_expr_of_kind-requires-clause-before t c =
    subst (λ k. Within (given_of c.args.given.now) (schedule_of c.args.given.now) c.args.tgt_expr (expected_type c.args.expected) k) (sym c.enter.ensures) (comes_within _ _ _ _ _ c.requires)

-- there is a place for the type
pub write_expr_ty-requires : goal.write_expr_ty-requires
write_expr_ty-requires t c = rw (c.in_ok-ty.ensures.follows.of_body.long column.type_of_expr) c.requires.within

-- what is found out once the type is recorded
pub register_needs-requires-clause-holes : goal.register_needs-requires-clause-holes
register_needs-requires-clause-holes t c = subst (λ (k : InferenceContext). HolesAreOf k.goals.table c.in_ok-ty.ty) (sym c.write_expr_ty.ensures) c.in_ok-ty.ensures.fine.holes

pub register_needs-requires-clause-kept : goal.register_needs-requires-clause-kept
register_needs-requires-clause-kept t c =
    let g = given_of c.args.given.now in
    let told : IsTold g c.infer_expr_of_kind.new.context = c.in_ok-ty.ensures.follows.told (subst (λ (k : InferenceContext). IsTold g k) (sym c.enter.ensures) (told_entered g c.args.context.now c.requires.state.told)) in
    subst (λ (k : InferenceContext). AreKept k.goals.sources.facts (system k.goals.sources.sources) k.goals.table k.goals.obligations) (sym c.write_expr_ty.ensures) told.goals.kept

pub register_needs-requires-clause-all : goal.register_needs-requires-clause-all
register_needs-requires-clause-all t c =
    let g = given_of c.args.given.now in
    let told : IsTold g c.infer_expr_of_kind.new.context = c.in_ok-ty.ensures.follows.told (subst (λ (k : InferenceContext). IsTold g k) (sym c.enter.ensures) (told_entered g c.args.context.now c.requires.state.told)) in
    subst (λ (k : InferenceContext). HasAllOpen (system k.goals.sources.sources) k.goals.table k.goals.obligations) (sym c.write_expr_ty.ensures) told.goals.all

pub returns : goal.returns
returns t c =
    let g = given_of c.args.given.now in
    let s = schedule_of c.args.given.now in
    let e = c.args.tgt_expr in
    let x = expected_type c.args.expected in
    let ty = c.in_ok-ty.ty in
    let old = c.args.context.now in
    let mid = c.infer_expr_of_kind.new.context in
    let goals = c.register_needs.new.goals in
    let kind : KindDone g s e x ty (entered old) mid = subst (λ k. KindDone g s e x ty k mid) c.enter.ensures c.in_ok-ty.ensures in
    let written : c.write_expr_ty.new.self ≡ with_expr_ty mid e ty = c.write_expr_ty.ensures ∙ ap (λ y. with_expr_ty mid e y) c.in_ok-recorded.ensures in
    let same : c.write_expr_ty.new.self.goals ≡ mid.goals = ap (λ (k : InferenceContext). k.goals) written in
    let own = own_expr g s c.lawful.ensures e x ty old mid c.requires kind in
    let done = c.in_ok-register_needs.ensures in
    let registers = subst (λ (z : GoalTable). Registers z.sources.facts (asked_for e.0 (needed_goals g.scope.facts own.0 ty)) z.obligations goals.obligations) same (done.registers own.0 own.1) in
    subst (λ (k : InferenceContext). OwnDone g s e x ty old (with_goal_table k goals)) (sym written)
    (own_registered g s c.lawful.ensures e x ty old mid c.requires kind own.0 own.1 goals
    (c.register_needs.ensures.table ∙ ap (λ (z : GoalTable). z.table) same) (c.register_needs.ensures.sources ∙ ap (λ (z : GoalTable). z.sources) same) (c.register_needs.ensures.bounded ∙ ap (λ (z : GoalTable). z.bounded) same)
    done.kept done.all registers)
