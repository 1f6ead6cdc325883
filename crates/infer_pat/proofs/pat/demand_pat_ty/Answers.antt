use Rattle.std.proofs.Common.{◌∙◌, ap, true, false, sym, subst}
use Rattle.infer_pat.specs.Words.{mismatch, given_of, scope_in, with_pat_mismatch, IsFine, IsFineExpectation, IsUnifiedIf}
use Rattle.infer_pat.specs.Words.infer_ctx.Context.{with_pat_ty}
use Rattle.infer_pat.specs.Own.{PatDemanded}
use Rattle.infer_pat.proofs.PatHoles.{demanded_nothing, demanded_unified, demanded_refused}
use Rattle.infer_pat.proofs.pat.demand_pat_ty.Goals as goal
use Rattle.infer_pat.specs.Words.infer_result.Columns as column

pub unify-requires-clause-left : goal.unify-requires-clause-left
unify-requires-clause-left c = subst (λ x. IsFineExpectation (scope_in c.args.given.now) c.args.context.now.goals.table x) c.in-Some.is c.requires.fine

-- there is a place for the type
pub write_pat_ty-requires : goal.write_pat_ty-requires
write_pat_ty-requires c = rw (c.in_ok-unify-in-Some.ensures.unified.binds.follows.of_body.long column.type_of_pat) c.requires.within

pub write_pat_ty-requires-in-Some : goal.write_pat_ty-requires-in-Some
write_pat_ty-requires-in-Some c = rw c.note_pat_mismatch.ensures (rw (c.in_ok-unify-in-Some.ensures.unified.binds.follows.of_body.long column.type_of_pat) c.requires.within)

pub write_pat_ty-requires-in-None : goal.write_pat_ty-requires-in-None
write_pat_ty-requires-in-None c = rw (c.requires.of_body.long column.type_of_pat) c.requires.within

pub returns-then-branch : goal.returns-then-branch
returns-then-branch c =
    let g = given_of c.args.given.now in
    let old = c.args.context.now in
    let after = c.unify.new.context in
    let fine : IsFine (scope_in c.args.given.now) old.goals.table c.in-Some.expected = subst (λ x. IsFineExpectation (scope_in c.args.given.now) c.args.context.now.goals.table x) c.in-Some.is c.requires.fine in
    let unified : IsUnifiedIf true g c.in-Some.expected c.args.ty old after
    = subst (λ yes. IsUnifiedIf yes (given_of c.args.given.now) c.in-Some.expected c.args.ty c.args.context.now c.unify.new.context) c.if-branch.true c.in_ok-unify-in-Some.ensures.unified in
    subst (λ k. PatDemanded (given_of c.args.given.now) c.args.pat c.args.ty c.args.expected c.args.context.now k) (sym c.write_pat_ty.ensures)
    (subst (λ x. PatDemanded (given_of c.args.given.now) c.args.pat c.args.ty x c.args.context.now (with_pat_ty c.unify.new.context c.args.pat c.args.ty)) (sym c.in-Some.is)
    (demanded_unified g c.args.pat c.args.ty old c.requires.of_body c.requires.sound c.requires.ty c.in-Some.expected fine after unified))

pub returns-else-branch : goal.returns-else-branch
returns-else-branch c =
    let g = given_of c.args.given.now in
    let old = c.args.context.now in
    let after = c.unify.new.context in
    let fine : IsFine (scope_in c.args.given.now) old.goals.table c.in-Some.expected = subst (λ x. IsFineExpectation (scope_in c.args.given.now) c.args.context.now.goals.table x) c.in-Some.is c.requires.fine in
    let refused : IsUnifiedIf false g c.in-Some.expected c.args.ty old after
    = subst (λ yes. IsUnifiedIf yes (given_of c.args.given.now) c.in-Some.expected c.args.ty c.args.context.now c.unify.new.context) c.if-branch.false c.in_ok-unify-in-Some.ensures.unified in
    subst (λ k. PatDemanded (given_of c.args.given.now) c.args.pat c.args.ty c.args.expected c.args.context.now k)
    (sym (
    c.write_pat_ty-in-Some.ensures
    ∙ ap (λ k. with_pat_ty k c.args.pat c.args.ty) (
    c.note_pat_mismatch.ensures
    ∙ ap (λ t. with_pat_mismatch c.unify.new.context c.args.pat (mismatch c.in-Some.expected t)) c.in_ok-actual-in-Some.ensures
    )
    ))
    (subst (λ x. PatDemanded (given_of c.args.given.now) c.args.pat c.args.ty x c.args.context.now (with_pat_ty (with_pat_mismatch c.unify.new.context c.args.pat (mismatch c.in-Some.expected c.args.ty)) c.args.pat c.args.ty)) (sym c.in-Some.is)
    (demanded_refused g c.args.pat c.args.ty old c.requires.of_body c.requires.sound c.requires.ty c.in-Some.expected fine after refused))

pub returns-in-None : goal.returns-in-None
returns-in-None c =
    subst (λ k. PatDemanded (given_of c.args.given.now) c.args.pat c.args.ty c.args.expected c.args.context.now k) (sym c.write_pat_ty-in-None.ensures)
    (subst (λ x. PatDemanded (given_of c.args.given.now) c.args.pat c.args.ty x c.args.context.now (with_pat_ty c.args.context.now c.args.pat c.args.ty)) (sym c.in-None.is)
    (demanded_nothing (given_of c.args.given.now) c.args.pat c.args.ty c.args.context.now c.requires.of_body c.requires.sound c.requires.ty))
