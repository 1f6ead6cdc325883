-- A literal: Reference, "Literal expressions"; upstream `infer/expr.rs`, `infer_literal`.
use Rattle.std.specs.Prelude.{◌≡◌, Some, None}
use Rattle.infer_result.specs.Words.{Ty, IntegerTy, integer_type, RawLiteral}
use Rattle.hir_types.specs.declared.ty.Ty.TheVariants as ty
use Rattle.infer_result.specs.Words.hir_raw.declared.raw.RawLiteral.TheVariants as literal

-- ---- its rule

-- an integer without a suffix may have any integer type
abbrev pub IsLiteralType : RawLiteral → Ty → Type 0
IsLiteralType (literal.Bool b) t = t ≡ ty.Bool
IsLiteralType (literal.Char c) t = t ≡ ty.Char
IsLiteralType (literal.Int digits (Some suffix)) t = t ≡ integer_type suffix
IsLiteralType (literal.Int digits None) t = (i : IntegerTy) × (t ≡ integer_type i)

-- ---- the type that it has by itself

-- the literal's type is said by itself
abbrev pub IsOwnType : RawLiteral → Ty → Type 0
IsOwnType (literal.Bool b) t = t ≡ ty.Bool
IsOwnType (literal.Char c) t = t ≡ ty.Char
IsOwnType (literal.Int digits (Some suffix)) t = t ≡ integer_type suffix
IsOwnType _ t = ⊥
