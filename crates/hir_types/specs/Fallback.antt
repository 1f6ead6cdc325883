-- What open holes fall back to in the end.
use Rattle.hir_types.specs.declared.ty.Const.TheVariants as const
use Rattle.hir_types.specs.declared.ty.IntTy.TheVariants as int
use Rattle.hir_types.specs.declared.ty.Ty.TheVariants as ty
use Rattle.hir_types.specs.Subst.{Assignment}

-- `i32` for a hole of integer types, else `{unknown}`
abbrev pub fallback : Assignment
fallback = record {
  var = λ n. ty.Error;
  int_var = λ n. ty.Int int.I32;
  const_var = λ n. const.Unknown;
}
