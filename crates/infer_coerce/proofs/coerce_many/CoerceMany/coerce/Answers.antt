use Rattle.std.proofs.Common.{sym, subst}
use Rattle.infer_coerce.specs.Words.{given_of, scope_in}
use Rattle.infer_coerce.specs.Own.{IsCoerced, IsFineCommon, Merges}
use Rattle.infer_coerce.specs.declared.coerce_many.CoerceMany.TheVariants as common
use Rattle.infer_coerce.proofs.Merged.{coerced_merges}
use Rattle.infer_coerce.proofs.coerce_many.CoerceMany.coerce.Goals as goal

pub returns-then-branch : goal.returns-then-branch
returns-then-branch c =
    let g = given_of c.args.given.now in
    let old = c.args.context.now in
    let new = c.demand_coerce.new.context in
    subst (λ m. Merges g c.args.expr c.args.ty m (common.Is c.in-Is.common) old new) (sym c.in-Is.is)
    (coerced_merges g c.args.expr c.args.ty c.in-Is.common old new
    (subst (λ m. IsFineCommon (scope_in c.args.given.now) old.goals.table m) c.in-Is.is c.requires.common)
    (subst (λ yes. IsCoerced yes g c.args.expr c.args.ty c.in-Is.common old new) c.if-branch.true c.in_ok-demand_coerce-in-Is.ensures))
