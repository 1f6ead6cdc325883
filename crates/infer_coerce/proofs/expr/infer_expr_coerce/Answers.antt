use Rattle.std.proofs.Common.{arith}
use Rattle.infer_coerce.proofs.Expressions.{coerced_own, refused_own}
use Rattle.infer_coerce.proofs.expr.infer_expr_coerce.Goals as goal

pub infer-requires : goal.infer-requires
infer-requires g c = c.requires.infers.may _ _ _ (omega (arith)) c.requires.before

pub returns-in-Ok : goal.returns-in-Ok
returns-in-Ok g c =
    coerced_own _ _ _ _ _ c.in-Some.target.now _ _ _ c.in-Some.ensures c.requires.before (c.requires.infers.does _ _ _ _ _ c.in_ok-ty.ensures) _ c.in_ok-ty-in-Some.ensures c.in-Ok.field-0 c.in-Ok.is

pub returns-in-Some : goal.returns-in-Some
returns-in-Some g c =
    rw c.note_mismatch.ensures
    (refused_own _ _ _ _ _ c.in-Some.target.now _ _ _ c.in-Some.ensures c.requires.before (c.requires.infers.does _ _ _ _ _ c.in_ok-ty.ensures) _ c.in_ok-ty-in-Some.ensures
    c.in-Err.field-0 c.in_ok-coerced-in-Err.coerced c.in-Err.is c.in_ok-coerced-in-Err.ensures)
