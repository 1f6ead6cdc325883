use Rattle.std.proofs.Common.{sym, subst}
use Rattle.infer_pat.specs.Words.{given_of, scope_in, IsSound, IsFineExpectation}
use Rattle.infer_pat.proofs.Words.{sound_entered, fine_expectation_grown}
use Rattle.infer_pat.specs.Own.{PathDone}
use Rattle.infer_pat.proofs.CtorPatWalk.{path_pat_named, path_pat_walked}
use Rattle.infer_pat.proofs.pat.infer_path_pat.Goals as goal

pub infer_expr_path-requires-clause-sound : goal.infer_expr_path-requires-clause-sound
infer_expr_path-requires-clause-sound c = subst (λ k. IsSound (scope_in c.args.given.now) k) (sym c.enter.ensures) (sound_entered _ c.requires.before.state.sound)

pub infer_expr_path-requires-clause-names : goal.infer_expr_path-requires-clause-names
infer_expr_path-requires-clause-names c = path_pat_named _ _ _ _ _ _ c.enter.new.self c.requires.before c.requires.is

pub demand_pat_ty-requires-clause-fine : goal.demand_pat_ty-requires-clause-fine
demand_pat_ty-requires-clause-fine c =
    fine_expectation_grown (scope_in c.args.given.now) c.enter.new.self.goals.table c.infer_expr_path.new.context.goals.table c.args.expected c.in_ok-ty.ensures.grew
    (subst (λ k. IsFineExpectation (scope_in c.args.given.now) k.goals.table c.args.expected) (sym c.enter.ensures) c.requires.before.fine)

pub returns : goal.returns
returns c =
    path_pat_walked _ _ _ _ _ _ _ _ _ c.requires.before c.requires.is
    (subst (λ k. PathDone (given_of c.args.given.now) c.args.path c.in_ok-ty.ty k c.infer_expr_path.new.context) c.enter.ensures c.in_ok-ty.ensures) c.in_ok-demand_pat_ty.ensures
