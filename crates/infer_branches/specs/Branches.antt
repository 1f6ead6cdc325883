-- What the walk over the alternatives of an `if` or a `match` is given, and what it does.
use Rattle.std.specs.Prelude.{◌≡◌, slice_get, Option, Some, List, None, [], ◌∷◌, ℕ, ◌⊎◌, ◌<◌, length}
use Rattle.infer_branches.specs.Words.{ExprId, Ty, unit, Assignment, folded, RawBody, RawArm, Schedule, after, maybe_part, guard, arms_parts, inner, else_branch, IsCarriedType, Given, IsAt, InferenceResult, HasTy, AnyMismatch, GuardRule, arm_exprs, ArmsRule, at_or_mismatch, Found, OwnWalked, IsReady, LieAhead, Walks, Nothing, PaidBy, InferenceContext, IsFineExpectation, IsFine, IsWalking, Follows, Does, Closes, found_under, expected_under, CoerceMany, MergesInto, common_under, IsFineCommon}
use Rattle.hir_types.specs.declared.ids.ExprOrPatId.TheVariants as node
use Rattle.infer_branches.specs.Words.hir_raw.declared.raw.RawExpr.TheVariants as expr
use Rattle.infer_branches.specs.Words.infer_coerce.declared.coerce_many.CoerceMany.TheVariants as common

abbrev pub IsIfOf : RawBody → ExprId → ExprId → ExprId → Option ExprId → Type 0
IsIfOf b e c first other = slice_get b.exprs e.0 ≡ Some (expr.If c first other)

abbrev pub IsMatchOf : RawBody → ExprId → ExprId → List RawArm → Type 0
IsMatchOf b e d arms = slice_get b.exprs e.0 ≡ Some (expr.Match d arms)

-- the alternative e, of which x is expected, is typed and taken into the common type
pub record AlternativeWalked (g : Given) (s : Schedule) (e : ExprId) (x : Option Ty) (before after : CoerceMany)
    (old new : Found) : Type 0 where
  pub mid : Found
  pub type : Ty
  pub own : OwnWalked g s e x type old mid
  pub merged : MergesInto e type before after mid new

-- the other branch of the `if` n is taken into the common type, or `()` where it has none
abbrev pub ElseWalked : Given → Schedule → ExprId → Option ExprId → Option Ty → CoerceMany → CoerceMany → Found → Found → Type 0
ElseWalked g s n None x before after old new = MergesInto n unit before after old new
ElseWalked g s n (Some e) x before after old new = AlternativeWalked g s e x before after old new

-- each of these expressions is at the type
abbrev pub AllAtType : InferenceResult → List ExprId → Ty → Type 0
AllAtType r [] t = Unit {0}
AllAtType r (e ∷ es) t = IsAt r e t × AllAtType r es t

-- the common type is what is expected, or else the type of the first alternative
abbrev pub IsCommonFrom : InferenceResult → List ExprId → Option Ty → Ty → Type 0
IsCommonFrom r es (Some u) t = t ≡ u
IsCommonFrom r [] None t = ⊥
IsCommonFrom r (e ∷ es) None t = HasTy r e t

-- the guard is a truth value, where there is one, or has a mismatch
pub record GuardWalked (g : Given) (s : Schedule) (o : Option ExprId) (old new : Found) : Type 0 where
  pub walks : Walks g s Nothing old new
  pub clock : (i : ℕ) → new.clock ≡ after g.body s old.clock (maybe_part (guard i) o)
  pub made : GuardRule (at_or_mismatch g new.result) o

-- each guard is a truth value, and the arms have the type t in common, or one of them has a mismatch
pub record ArmsWalked (g : Given) (s : Schedule) (n : ExprId) (arms : List RawArm) (x : Option Ty) (t : Ty) (old new : Found) : Type 0 where
  pub walks : Walks g s (PaidBy g n x t) old new
  pub clock : new.clock ≡ after g.body s old.clock (arms_parts 0 arms)
  pub carried : IsCarriedType t
  pub made : ArmsRule (at_or_mismatch g new.result) (arm_exprs arms) arms t

-- The alternatives es, of which x is expected, have the common type, or one of them has a mismatch.
abbrev pub AreMerged : InferenceResult → List ExprId → Option Ty → CoerceMany → Type 0
AreMerged r es x common.Nothing = (es ≡ []) × (x ≡ None)
AreMerged r es x (common.Is t) = (AllAtType r es t ⊎ AnyMismatch r es) × IsCommonFrom r es x t
AreMerged r es x common.Unknown = AnyMismatch r es

-- the arms of the `match` n lie ahead, and x is expected of them
pub record BeforeArms (g : Given) (s : Schedule) (n : ExprId) (arms : List RawArm) (x : Option Ty) (c : InferenceContext) : Type 0 where
  pub ready : IsReady g s
  pub state : IsWalking g s c
  pub within : n.0 < length g.body.exprs
  pub ahead : LieAhead g.body s (inner (node.ExprId n)) c.clock (arms_parts 0 arms)
  pub some : (arms ≡ [] → ⊥)
  pub expected : IsFineExpectation g.scope c.goals.table x

-- the arms have the type t in common, or a mismatch
pub record ArmsDone (g : Given) (s : Schedule) (n : ExprId) (arms : List RawArm) (x : Option Ty) (t : Ty)
    (old new : InferenceContext) : Type 0 where
  pub follows : Follows g old new
  pub fine : IsFine g.scope new.goals.table t
  pub each : (a : Assignment) → Closes a new
      → ArmsWalked g s n arms (expected_under a x) (folded a t) (found_under a old) (found_under a new)

-- the guard of an arm lies ahead, where it has one
pub record BeforeGuard (g : Given) (s : Schedule) (n : ExprId) (o : Option ExprId) (c : InferenceContext) : Type 0 where
  pub ready : IsReady g s
  pub state : IsWalking g s c
  pub position : ℕ
  pub ahead : LieAhead g.body s (inner (node.ExprId n)) c.clock (maybe_part (guard position) o)

-- the guard is a truth value, where there is one, or has a mismatch
abbrev pub GuardDone : Given → Schedule → Option ExprId → InferenceContext → InferenceContext → Type 0
GuardDone g s o old new = Does g (λ a. GuardWalked g s o) old new

-- the alternative e, of which x is expected, is typed and taken into the common type
pub record AlternativeDone (g : Given) (s : Schedule) (e : ExprId) (x : Option Ty) (before after : CoerceMany)
    (old new : InferenceContext) : Type 0 where
  pub follows : Follows g old new
  pub fine : IsFineCommon g.scope new.goals.table after
  pub each : (a : Assignment) → Closes a new
      → AlternativeWalked g s e (expected_under a x) (common_under a before) (common_under a after) (found_under a old) (found_under a new)

-- the other branch of the `if` n lies ahead, where it has one, and m is the type of the first
pub record BeforeElse (g : Given) (s : Schedule) (n : ExprId) (other : Option ExprId) (x : Option Ty) (m : CoerceMany)
    (c : InferenceContext) : Type 0 where
  pub ready : IsReady g s
  pub state : IsWalking g s c
  pub within : n.0 < length g.body.exprs
  pub ahead : LieAhead g.body s (inner (node.ExprId n)) c.clock (maybe_part else_branch other)
  pub expected : IsFineExpectation g.scope c.goals.table x
  pub common : IsFineCommon g.scope c.goals.table m

-- it is taken into the common type, or `()` where there is none
pub record ElseDone (g : Given) (s : Schedule) (n : ExprId) (other : Option ExprId) (x : Option Ty) (before after : CoerceMany)
    (old new : InferenceContext) : Type 0 where
  pub follows : Follows g old new
  pub fine : IsFineCommon g.scope new.goals.table after
  pub each : (a : Assignment) → Closes a new
      → ElseWalked g s n other (expected_under a x) (common_under a before) (common_under a after) (found_under a old) (found_under a new)
