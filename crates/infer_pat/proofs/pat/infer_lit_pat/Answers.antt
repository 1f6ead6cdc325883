use Rattle.std.proofs.Common.{refl, sym, subst}
use Rattle.infer_pat.specs.Words.{given_of, scope_in, schedule_of, expected_type, entered, Before, OwnDone, Grew, IsFine, IsFineExpectation, InferenceContext}
use Rattle.infer_pat.proofs.Words.{fine_grown}
use Rattle.infer_pat.specs.Own.{PatDone}
use Rattle.infer_pat.proofs.PatWalk.{FitsExpected, comes_to_lit, lit_walked}
use Rattle.infer_pat.proofs.pat.infer_lit_pat.Goals as goal
use Rattle.infer_pat.specs.Words.infer_result.Columns as column

pub infer_pat_literal-requires-clause-before : goal.infer_pat_literal-requires-clause-before
infer_pat_literal-requires-clause-before c =
    subst (λ k. Before (given_of c.args.given.now) (schedule_of c.args.given.now) c.args.expr (expected_type c.of.result) k) (sym c.enter.ensures)
    (subst (λ y. Before (given_of c.args.given.now) (schedule_of c.args.given.now) c.args.expr y (entered c.args.context.now)) (sym c.of.ensures)
    (comes_to_lit _ _ _ c.args.expr _ _ c.requires.before c.requires.is))

pub infer_pat_literal-requires-clause-is : goal.infer_pat_literal-requires-clause-is
infer_pat_literal-requires-clause-is c = c.requires.before.ready.law.literals c.args.pat.0 c.args.expr c.requires.is

pub demand_coerce-requires-clause-within : goal.demand_coerce-requires-clause-within
demand_coerce-requires-clause-within c = (comes_to_lit _ _ _ c.args.expr _ _ c.requires.before c.requires.is).within

pub demand_coerce-requires-clause-target : goal.demand_coerce-requires-clause-target
demand_coerce-requires-clause-target c =
    let old = c.args.context.now in
    let last = c.infer_pat_literal.new.context in
    let grew : Grew old.goals.table last.goals.table = subst (λ (k : InferenceContext). Grew k.goals.table last.goals.table) c.enter.ensures c.in_ok-ty.ensures.follows.grew in
    let fine : IsFine (scope_in c.args.given.now) old.goals.table c.in-Some.target = subst (λ x. IsFineExpectation (scope_in c.args.given.now) old.goals.table x) c.in-Some.is c.requires.before.fine in
    fine_grown (scope_in c.args.given.now) old.goals.table last.goals.table c.in-Some.target grew fine

-- there is a place for the type
pub write_pat_ty-requires : goal.write_pat_ty-requires
write_pat_ty-requires c = rw (c.in_ok-demand_coerce-in-Some.ensures.follows.of_body.long column.type_of_pat) c.requires.before.within

pub write_pat_ty-requires-in-None : goal.write_pat_ty-requires-in-None
write_pat_ty-requires-in-None c = rw (c.in_ok-ty.ensures.follows.of_body.long column.type_of_pat) c.requires.before.within

pub returns-in-Some : goal.returns-in-Some
returns-in-Some c =
    let entering : OwnDone (given_of c.args.given.now) (schedule_of c.args.given.now) c.args.expr (expected_type c.of.result) c.in_ok-ty.ty (entered c.args.context.now) c.infer_pat_literal.new.context
    = subst (λ k. OwnDone (given_of c.args.given.now) (schedule_of c.args.given.now) c.args.expr (expected_type c.of.result) c.in_ok-ty.ty k c.infer_pat_literal.new.context) c.enter.ensures c.in_ok-ty.ensures in
    let done : OwnDone (given_of c.args.given.now) (schedule_of c.args.given.now) c.args.expr c.args.expected c.in_ok-ty.ty (entered c.args.context.now) c.infer_pat_literal.new.context
    = subst (λ x. OwnDone (given_of c.args.given.now) (schedule_of c.args.given.now) c.args.expr x c.in_ok-ty.ty (entered c.args.context.now) c.infer_pat_literal.new.context) c.of.ensures entering in
    let fits : FitsExpected (given_of c.args.given.now) c.args.expr c.in_ok-ty.ty c.args.expected c.infer_pat_literal.new.context c.demand_coerce.new.context
    = subst (λ x. FitsExpected (given_of c.args.given.now) c.args.expr c.in_ok-ty.ty x c.infer_pat_literal.new.context c.demand_coerce.new.context) (sym c.in-Some.is) (c.in_ok-demand_coerce-in-Some.field-0, c.in_ok-demand_coerce-in-Some.ensures) in
    subst (λ k. PatDone (given_of c.args.given.now) (schedule_of c.args.given.now) c.args.pat c.args.expected c.args.context.now k) (sym c.write_pat_ty.ensures)
    (lit_walked _ _ _ c.args.expr _ _ c.requires.before c.requires.is _ _ done _ fits)

pub returns : goal.returns
returns c =
    let entering : OwnDone (given_of c.args.given.now) (schedule_of c.args.given.now) c.args.expr (expected_type c.of.result) c.in_ok-ty.ty (entered c.args.context.now) c.infer_pat_literal.new.context
    = subst (λ k. OwnDone (given_of c.args.given.now) (schedule_of c.args.given.now) c.args.expr (expected_type c.of.result) c.in_ok-ty.ty k c.infer_pat_literal.new.context) c.enter.ensures c.in_ok-ty.ensures in
    let done : OwnDone (given_of c.args.given.now) (schedule_of c.args.given.now) c.args.expr c.args.expected c.in_ok-ty.ty (entered c.args.context.now) c.infer_pat_literal.new.context
    = subst (λ x. OwnDone (given_of c.args.given.now) (schedule_of c.args.given.now) c.args.expr x c.in_ok-ty.ty (entered c.args.context.now) c.infer_pat_literal.new.context) c.of.ensures entering in
    let fits : FitsExpected (given_of c.args.given.now) c.args.expr c.in_ok-ty.ty c.args.expected c.infer_pat_literal.new.context c.infer_pat_literal.new.context
    = subst (λ x. FitsExpected (given_of c.args.given.now) c.args.expr c.in_ok-ty.ty x c.infer_pat_literal.new.context c.infer_pat_literal.new.context) (sym c.in-None.is) refl in
    subst (λ k. PatDone (given_of c.args.given.now) (schedule_of c.args.given.now) c.args.pat c.args.expected c.args.context.now k) (sym c.write_pat_ty-in-None.ensures)
    (lit_walked _ _ _ c.args.expr _ _ c.requires.before c.requires.is _ _ done _ fits)
