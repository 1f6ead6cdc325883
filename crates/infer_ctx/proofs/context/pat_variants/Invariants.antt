use Rattle.std.proofs.Common.{◌≡◌, map, take}
use Rattle.infer_ctx.specs.Own.{pat_variant}
use Rattle.infer_ctx.proofs.context.pat_variants.Given as goal

abbrev pub invariant-loop-pat : goal.invariant-loop-pat
invariant-loop-pat l = l.variants ≡ map pat_variant (take l.pat-index l.pat-items)
