use Rattle.std.proofs.Common.{◌≡◌, false, take}
use Rattle.std.specs.List.{list_any}
use Rattle.infer_result.specs.Own.{has_unknown, arg_has_unknown, bound_has_unknown}
use Rattle.infer_result.proofs.unknown.+unknown.Given as goal

abbrev pub invariant-any_unknown-loop-ty : goal.invariant-any_unknown-loop-ty
invariant-any_unknown-loop-ty l = list_any has_unknown (take l.ty-index l.tys) ≡ false

abbrev pub invariant-any_arg_unknown-loop-arg : goal.invariant-any_arg_unknown-loop-arg
invariant-any_arg_unknown-loop-arg l = list_any arg_has_unknown (take l.arg-index l.args) ≡ false

abbrev pub invariant-any_bound_unknown-loop-bound : goal.invariant-any_bound_unknown-loop-bound
invariant-any_bound_unknown-loop-bound l = list_any bound_has_unknown (take l.bound-index l.bounds) ≡ false
