use Rattle.std.specs.Prelude.{option_map}
use Rattle.std.proofs.Common.{◌≡◌, Some, map, take}
use Rattle.infer_end.specs.Words.{resolved_type}
use Rattle.infer_end.proofs.general.resolve_each.Given as goal

abbrev pub invariant-loop-ty : goal.invariant-loop-ty
invariant-loop-ty l = map Some l.resolved ≡ map (option_map (resolved_type l.table)) (take l.ty-index l.ty-items)
