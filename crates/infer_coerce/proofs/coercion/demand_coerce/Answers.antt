use Rattle.std.proofs.Common.{subst}
use Rattle.infer_coerce.specs.Words.{given_of}
use Rattle.infer_coerce.specs.Own.{IsCoercion}
use Rattle.infer_coerce.proofs.Unified.{refused_coerced}
use Rattle.infer_coerce.proofs.coercion.demand_coerce.Goals as goal

pub returns : goal.returns
returns c =
    rw c.note_mismatch.ensures
    (refused_coerced (given_of c.args.given.now) c.args.expr c.args.actual.now c.args.target.now c.args.context.now c.coerce.new.context c.requires.actual c.requires.target c.in-Err.field-0
    (subst (λ a. IsCoercion a (given_of c.args.given.now) c.args.expr c.args.actual.now c.args.target.now c.args.context.now c.coerce.new.context) c.in-Err.is c.in_ok-coerce.ensures))
