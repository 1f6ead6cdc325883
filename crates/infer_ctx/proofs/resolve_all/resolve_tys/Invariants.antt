use Rattle.std.specs.Prelude.{option_map}
use Rattle.std.proofs.Common.{◌≡◌, map, take}
use Rattle.infer_ctx.specs.Words.{folded, completion}
use Rattle.infer_ctx.proofs.resolve_all.resolve_tys.Given as goal

abbrev pub invariant-loop-ty : goal.invariant-loop-ty
invariant-loop-ty l = l.resolved ≡ map (option_map (folded (completion l.table))) (take l.ty-index l.ty-items)
