use Rattle.std.proofs.Common.{subst, sym, ◌≡◌, ◌++◌, ◌∷◌, [], Ok}
use Rattle.hir_types.specs.declared.ids.ExprOrPatId.TheVariants as node
use Rattle.infer_coerce.specs.Words.{waiting, InferenceContext, given_of}
use Rattle.infer_coerce.specs.Own.{IsCoercion}
use Rattle.infer_coerce.proofs.Unified.{waits_coercion}
use Rattle.infer_coerce.proofs.coercion.coerce.Goals as goal

pub returns-then-may_wait : goal.returns-then-may_wait
returns-then-may_wait c =
    let g = given_of c.args.given.now in
    subst (λ new. IsCoercion (Ok c.in_ok-coerced_to-2.field-0) (given_of c.args.given.now) c.args.expr c.args.source.now c.args.target.now c.args.context.now new) (sym c.in_ok-wait.ensures.waits)
    (waits_coercion g c.args.expr c.args.source.now c.args.target.now c.args.context.now c.requires.of_body c.requires.sound c.requires.source c.requires.target (c.may_wait.ensures c.if-may_wait.true)
    (subst (λ (new : InferenceContext). waiting new.goals.table.pairs ≡ waiting c.args.context.now.goals.table.pairs ++ (record { source = c.args.source.now; target = c.args.target.now; node = node.ExprId c.args.expr }) ∷ []) c.in_ok-wait.ensures.waits c.in_ok-wait.ensures.last)
    c.in_ok-coerced_to-2.field-0 c.in_ok-coerced_to-2.ensures)
