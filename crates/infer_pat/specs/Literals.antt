-- What a literal is given and gives.
use Rattle.std.specs.Prelude.{◌≡◌, Option, Some, None, unwrap_or}
use Rattle.std.specs.Option.{option_and_then}
use Rattle.infer_pat.specs.Words.{IntegerTy, Ty, Ty-F, out-Ty, AliasBound, GenericArg, TraitRef, integer_type, Assignment, folded, Scope, RawExpr, RawLiteral, State, resolved_type, Grew, hole_count, StaysButHoles, IsLiteralType, IsOwnType, InferenceContext, IsFine, IsClosing, IsSound}
use Rattle.hir_types.specs.declared.ty.Ty.TheVariants as ty
use Rattle.hir_types.specs.declared.ty.UintTy.TheVariants as uint
use Rattle.infer_pat.specs.Words.hir_raw.declared.raw.RawExpr.TheVariants as expr
use Rattle.infer_pat.specs.Words.hir_raw.declared.raw.RawLiteral.TheVariants as literal

-- ---- literals

-- What an integer without a suffix takes from what is known of the type that is expected of it: that integer
-- type, `u8` where it is `char`, and `usize` where it is a function item.
abbrev pub integer_step : Ty-F GenericArg Ty AliasBound TraitRef → Option Ty
integer_step (Ty-F.Int i) = Some (ty.Int i)
integer_step (Ty-F.Uint i) = Some (ty.Uint i)
integer_step Ty-F.Char = Some (ty.Uint uint.U8)
integer_step (Ty-F.FnDef i xs) = Some (ty.Uint uint.Usize)
integer_step _ = None

abbrev pub integer_for : Ty → Option Ty
integer_for t = integer_step (out-Ty t)

-- the integer type that is expected, where one is
abbrev pub expected_integer : State → Option Ty → Option Ty
expected_integer s x = option_and_then (λ t. integer_for (resolved_type s t)) x

-- it, or else a new hole for one
abbrev pub unsuffixed_type : State → Option Ty → Ty
unsuffixed_type s x = unwrap_or (expected_integer s x) (ty.IntVar (hole_count s))

-- the type is the integer type that is expected, or a new hole for one
pub record IntDone (sc : Scope) (x : Option Ty) (t : Ty) (old new : InferenceContext) : Type 0 where
  pub is : t ≡ unsuffixed_type old.goals.table x
  pub result : new.result ≡ old.result
  pub asked : new.asked ≡ old.asked
  pub clock : new.clock ≡ old.clock
  pub grew : Grew old.goals.table new.goals.table
  pub stays : StaysButHoles old.goals new.goals
  pub sound : IsSound sc new
  pub fine : IsFine sc new.goals.table t
  pub each : (a : Assignment) → IsClosing a → (i : IntegerTy) × (folded a t ≡ integer_type i)

-- the type of a literal of which x is expected
abbrev pub literal_type : State → Option Ty → RawLiteral → Ty
literal_type s x (literal.Bool b) = ty.Bool
literal_type s x (literal.Char c) = ty.Char
literal_type s x (literal.Int digits (Some i)) = integer_type i
literal_type s x (literal.Int digits None) = unsuffixed_type s x

-- the type of an expression that is a literal, of which x is expected
abbrev pub literal_type_at : State → Option Ty → Option RawExpr → Ty
literal_type_at s x (Some (expr.Lit l)) = literal_type s x l
literal_type_at s x _ = ty.Error

-- the type is the literal's
pub record LiteralDone (sc : Scope) (x : Option Ty) (l : RawLiteral) (t : Ty) (old new : InferenceContext) : Type 0 where
  pub is : t ≡ literal_type old.goals.table x l
  pub result : new.result ≡ old.result
  pub asked : new.asked ≡ old.asked
  pub clock : new.clock ≡ old.clock
  pub grew : Grew old.goals.table new.goals.table
  pub stays : StaysButHoles old.goals new.goals
  pub sound : IsSound sc new
  pub fine : IsFine sc new.goals.table t
  pub own : (s : Ty) → IsOwnType l s → t ≡ s
  pub each : (a : Assignment) → IsClosing a → IsLiteralType l (folded a t)
