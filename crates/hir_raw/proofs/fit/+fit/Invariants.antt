use Rattle.std.proofs.Common.{◌≡◌, true, take}
use Rattle.std.specs.List.{list_all}
use Rattle.hir_raw.specs.Own.{types_scope, ty_fits, arg_fits}
use Rattle.hir_raw.proofs.fit.+fit.Given as goal

abbrev pub invariant-all_fit-loop-ty : goal.invariant-all_fit-loop-ty
invariant-all_fit-loop-ty l = list_all (ty_fits (types_scope l.raw l.params)) (take l.ty-index l.tys) ≡ true

abbrev pub invariant-args_fit-loop-arg : goal.invariant-args_fit-loop-arg
invariant-args_fit-loop-arg l = list_all (arg_fits (types_scope l.raw l.params)) (take l.arg-index l.args) ≡ true
