-- Holes that resolve to `u8`, and those that resolve to `bool`.
use Rattle.std.specs.Prelude.{◌≡◌, ℕ, ◌+◌, ◌<◌}
use Rattle.hir_types.specs.declared.ty.Ty.TheVariants as ty
use Rattle.hir_types.specs.declared.ty.UintTy.TheVariants as uint
use Rattle.table_bench.specs.Words.{State, resolved_type}

abbrev pub IsByte : State → ℕ → Type 0
IsByte s hole = resolved_type s (ty.Var hole) ≡ ty.Uint uint.U8

abbrev pub IsBool : State → ℕ → Type 0
IsBool s hole = resolved_type s (ty.Var hole) ≡ ty.Bool

-- the first holes, so many, all resolve to `u8`
abbrev pub AreBytes : State → ℕ → Type 0
AreBytes s count = (hole : ℕ) → hole < count → IsByte s hole

-- the hole resolves to `bool`, and to `u8` the one so much further on
abbrev pub IsPair : State → ℕ → ℕ → Type 0
IsPair s count hole = IsBool s hole × IsByte s (hole + count)

-- each of the first holes does so
abbrev pub ArePairs : State → ℕ → Type 0
ArePairs s count = (hole : ℕ) → hole < count → IsPair s count hole
