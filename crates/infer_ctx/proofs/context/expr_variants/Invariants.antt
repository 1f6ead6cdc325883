use Rattle.std.proofs.Common.{◌≡◌, map, take}
use Rattle.infer_ctx.specs.Own.{expr_variant}
use Rattle.infer_ctx.proofs.context.expr_variants.Given as goal

abbrev pub invariant-loop-expr : goal.invariant-loop-expr
invariant-loop-expr l = l.variants ≡ map expr_variant (take l.expr-index l.expr-items)
