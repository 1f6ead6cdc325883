use Rattle.std.specs.Prelude.{option_map}
use Rattle.std.proofs.Common.{◌≡◌, map, take}
use Rattle.infer_ctx.specs.Words.{completion}
use Rattle.infer_ctx.specs.Own.{closed_mismatch}
use Rattle.infer_ctx.proofs.resolve_all.resolve_mismatches.Given as goal

abbrev pub invariant-loop-mismatch : goal.invariant-loop-mismatch
invariant-loop-mismatch l = l.resolved ≡ map (option_map (closed_mismatch (completion l.table))) (take l.mismatch-index l.mismatch-items)
