-- Types without holes that are plain: those that plain written types stand for.
use Rattle.std.specs.Prelude.{◌≡◌, ◌<◌, ℕ, List, length, slice_get, Some, IsTrue}
use Rattle.hir_facts.specs.Words.{AdtId, IntegerTy, Ty, integer_type, Scope, adt_params, has_params, type_args}
use Rattle.hir_types.specs.declared.ty.Ty.TheVariants as ty
use Rattle.hir_facts.specs.Plain.{IsPlainAdt}

-- `bool`, `char`, an integer, a tuple of plain types, a plain adt at as many plain types as it has
-- parameters, or a parameter in scope
pub data IsPlainIn (sc : Scope) : Ty → Type 0 where
  plain_bool : IsPlainIn sc ty.Bool
  plain_char : IsPlainIn sc ty.Char
  plain_integer : (i : IntegerTy) → IsPlainIn sc (integer_type i)
  plain_tuple : (ts : List Ty) → ((k : ℕ) (u : Ty) → slice_get ts k ≡ Some u → IsPlainIn sc u)
      → IsPlainIn sc (ty.Tuple ts)
  plain_adt : (a : AdtId) (ts : List Ty) → IsPlainAdt sc.facts a.0
      → IsTrue (has_params (adt_params sc.facts a) (length ts))
      → ((k : ℕ) (u : Ty) → slice_get ts k ≡ Some u → IsPlainIn sc u) → IsPlainIn sc (ty.Adt a (type_args ts))
  plain_param : (n : ℕ) → n < sc.params → IsPlainIn sc (ty.Param n)

abbrev pub ArePlainIn : Scope → List Ty → Type 0
ArePlainIn sc ts = (k : ℕ) (u : Ty) → slice_get ts k ≡ Some u → IsPlainIn sc u
